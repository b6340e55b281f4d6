-- Where the grammar's reading stops, the cursor stops: so there is one code, one position and one number of items. By induction on the relation.
-- Assumes nothing.
use Prim.Native.Nat.{ℕ, ◌+◌}
use mathlib.Core.Path.{◌≡◌, refl, ◌∙◌}
use mathlib.Core.List.{List, [], ◌++◌}
use native.Mathlib.Omega.{arith}
use lib.ListN.{length, take}
use lib.Seq.{length-take-le}
use Rattle.reading.specs.Script.{Span, Value, Found, Item, string, Script, item, within, repeat}
use Rattle.reading.specs.Cursor.{Place, Out, got, stop, read_opaque, read_item, times, inside, follow}
use Rattle.reading.specs.Grammar.{Opaque, Is}
use Rattle.reading.proofs.Stands.{place, Stands, opaque_there, payload_there, bytes_there, drop_take, held, front}
use Rattle.reading.proofs.Complete.{complete_item, complete_many, complete}
use Rattle.demands.specs.Stops.{Stops, barred, standing, no_item, not_text, past_item, no_opaque, inside_it, past_it, among, past_all}
use Rattle.demands.proofs.Stopping.{Left, part_stands, left_behind, opaque_missing, item_missing, string_ill, many_stop}

-- the same refusal, counted in two ways
same : {A : Type 0} (c a m n : ℕ) → m ≡ n → ◌≡◌ {A = Out A} (stop c a m) (stop c a n)
same c a m n e = rw e

at_once : {A : Type 0} (c d i o k n : ℕ) → d ≡ c → i ≡ o → n ≡ 0 → ◌≡◌ {A = Out A} (stop c o k) (stop d i (k + n))
at_once c d i o k n e f g = rw (e, f) (same c o k (k + n) (omega arith))

module _ (s : List ℕ) (p : Place) {c a n : ℕ} where
  past_an_item : (i : Item) (j : Value → Script) {v : Value} {q : Place} → read_item i s p ≡ got v q → follow (j v) s q ≡ stop c a n → follow (item i j) s p ≡ stop c a n
  unfolding follow
  past_an_item i j e f = rw (e, f)

  none_here : (i : Item) (j : Value → Script) → read_item i s p ≡ stop c a n → follow (item i j) s p ≡ stop c a n
  unfolding follow
  none_here i j e = rw e

  module _ (body : Script) (j : Span → Found → Script) where
    no_opaque_here : read_opaque s p ≡ stop c a n → follow (within body j) s p ≡ stop c a n
    unfolding follow
    no_opaque_here e = rw e

    in_opaque : {x : Span} {q : Place} → read_opaque s p ≡ got x q → follow body (take (x.start + x.count) s) (place x.start q.steps) ≡ stop c a n → follow (within body j) s p ≡ stop c a n
    unfolding follow inside
    in_opaque e f = rw (e, f)

    past_opaque : {x : Span} {q : Place} {g : Found} {i : Place} → read_opaque s p ≡ got x q → follow body (take (x.start + x.count) s) (place x.start q.steps) ≡ got g i
        → follow (j x g) s (place q.at i.steps) ≡ stop c a n → follow (within body j) s p ≡ stop c a n
    unfolding follow inside
    past_opaque e f g = rw (e, f, g)

  module _ (m : ℕ) (body : Script) (j : Found → Script) where
    in_many : times m (follow body) s p ≡ stop c a n → follow (repeat m body j) s p ≡ stop c a n
    unfolding follow
    in_many e = rw e

    past_many : {g : Found} {q : Place} → times m (follow body) s p ≡ got g q → follow (j g) s q ≡ stop c a n → follow (repeat m body j) s p ≡ stop c a n
    unfolding follow
    past_many e f = rw (e, f)

-- a payload, and what is left of it inside
module _ {s x u y : List ℕ} {o : ℕ} (q : Opaque x u) (st : Stands s o u y) where
  payload_left : Left (take (o + 4 + length x) s) (o + 4) x
  payload_left =
      let b = (payload_there o q st).1 in
      record { there = drop_take (o + 4) (length x) s ∙ bytes_there (o + 4) b; fits = rw (length-take-le (o + 4 + length x) s b.fits) (omega arith) }

  payload_read : (body : Script) (inner rest : List ℕ) (a : Found) (k m : ℕ) → x ≡ inner ++ rest → Is body (o + 4) inner a m
      → follow body (take (o + 4 + length x) s) (place (o + 4) k) ≡ got a (place (o + 4 + length inner) (k + m))
  payload_read body inner rest a k m e i = complete body (take (o + 4 + length x) s) inner (rest ++ []) a (o + 4) k m i (front inner rest e (held (o + 4) (payload_there o q st).1))

pub halting : {sc : Script} {o c a n : ℕ} {b : List ℕ} → Stops sc o b c a n → (s : List ℕ) (k : ℕ) → Left s o b → follow sc s (place o k) ≡ stop c a (k + n)
unfolding follow
halting {o = o} {c} {a} {n} (barred {c = d} e f g) s k h = at_once d c a o k n e f g
halting (standing m) s k h = halting m s k h
halting {o = o} {c} {a} {n} (no_item {i} {k = j} m e f) s k h = none_here s (place o k) i j (item_missing h k m ∙ at_once c c a o k n refl e f)
halting {o = o} {c} {a} {n} (not_text {k = j} x i q l g z e f) s k h = none_here s (place o k) string j (string_ill h k q l g ∙ at_once 7 c a (o + 4 + i) k n z e f)
halting {o = o} {c} {a} {n} (past_item {i} {k = j} x y v m e f ix t) s k h =
    past_an_item s (place o k) i j (complete_item i o k ix (part_stands x y e h)) (halting t s (k + 1) (left_behind x y e h) ∙ same c a (k + 1 + m) (k + n) (omega arith))
halting {o = o} {c} {a} {n} (no_opaque {body} {k = j} m e f) s k h = no_opaque_here s (place o k) body j (opaque_missing h k m ∙ at_once c c a o k n refl e f)
halting {o = o} {c} {a} {n} (inside_it {body} {k = j} x m f q t) s k h =
    let st = part_stands q.read q.rest q.joined h in
    in_opaque s (place o k) body j (opaque_there o k q.is st) (halting t (take (o + 4 + length x) s) (k + 1) (payload_left q.is st) ∙ same c a (k + 1 + m) (k + n) (omega arith))
halting {o = o} {c} {a} {n} (past_it {body} {k = j} x u y inner rest g m l e f q ex ib t) s k h =
    let st = part_stands u y e h in
    past_opaque s (place o k) body j (opaque_there o k q st) (payload_read q st body inner rest g (k + 1) m ex ib)
    (halting t s (k + 1 + m) (left_behind u y e h) ∙ same c a (k + 1 + m + l) (k + n) (omega arith))
halting {o = o} {c} {a} {n} (among {c = d} {body} {k = i} j x y g m l lt e f many t) s k h =
    in_many s (place o k) d body i
    (many_stop (follow body) s j d (place o k) lt (complete_many (follow body) (Is body) (complete body) j s x y g o k m many (part_stands x y e h)) (halting t s (k + m) (left_behind x y e h) ∙ same c a (k + m + l) (k + n) (omega arith)))
halting {o = o} {c} {a} {n} (past_all {c = d} {body} {k = i} x y g m l e f many t) s k h =
    past_many s (place o k) d body i (complete_many (follow body) (Is body) (complete body) d s x y g o k m many (part_stands x y e h)) (halting t s (k + m) (left_behind x y e h) ∙ same c a (k + m + l) (k + n) (omega arith))
