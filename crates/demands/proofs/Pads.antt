-- What the pads of an accepted input hold does not matter, nor what is behind its end: by induction on the script. Assumes nothing.
use Prim.Native.Nat.{ℕ, zero, suc, ◌+◌, ◌≤◌, ◌<◌}
use mathlib.Core.Logic.{◌⊎◌, inl, inr}
use mathlib.Core.Path.{◌≡◌, refl, sym, ap, ◌∙◌, subst}
use mathlib.Core.Bool.{Bool, true, false, cond}
use mathlib.Core.List.{List, ◌++◌}
use native.Mathlib.Omega.{arith}
use native.Mathlib.Nat.{zero-add}
use borrow.Author.Tests.{le-leb}
use lib.ListN.{length, take, drop, get_or, length-drop, take-append-drop, length-append}
use lib.Seq.{ext_get_or, get_or-take, get_or-drop, length-take-le}
use Rattle.reading.specs.Bytes.{be4, padded}
use Rattle.reading.specs.Utf8.{utf8}
use Rattle.reading.specs.Grammar.{Is}
use Rattle.reading.specs.Script.{Span, Value, part, Found, ◌⊞◌, Item, word, tested, long, int, block, opaque, string, Script, give, refuse, here, item, within, repeat}
use Rattle.reading.specs.Cursor.{Place, Out, got, stop, Reader, fixed, awaited, bytes, ill_at, read_opaque, read_item, times, held_to, inside, follow}
use Rattle.reading.specs.Sizes.{longest_input, longest_opaque, depth_limit}
use Rattle.reading.proofs.Items.{never, split, held_to_end, OpaqueRead, opaque_read}
use Rattle.reading.proofs.Stands.{place, Stands}
use Rattle.reading.proofs.SoundItems.{sound_item}
use Rattle.reading.proofs.Sound.{sound}
use Rattle.reading.proofs.Complete.{complete_item}
use Rattle.reading.proofs.Bounds.{Owes, owes, owes_item}
use Rattle.reading.proofs.Counts.{repeat_is}
use Rattle.reading.proofs.Room.{last_place}
use Rattle.reading.specs.Layout.{Mode, datagram_to, datagram}
use Rattle.reading.specs.Answer.{from, one}
use Rattle.demands.specs.Readings.{Allowed}
use Rattle.demands.specs.Pads.{SameButPads}
use Rattle.demands.proofs.Limit.{no_deeper}
use Rattle.demands.proofs.Accepted.{given}
use Rattle.demands.proofs.CursorPads.{Given, Behind, ItemPadRead, TimesPadRead, PadRead, agree}

-- a script goes forward, and stays inside
pub onward : (sc : Script) (s : List ℕ) (p : Place) {a : Found} {q : Place} → p.at ≤ length s → follow sc s p ≡ got a q → (p.at ≤ q.at) × (q.at ≤ length s)
unfolding Owes
onward sc s p h e = let o = rw e at (owes sc s p h) in (o.0, o.1)

item_onward : (i : Item) (s : List ℕ) (p : Place) {v : Value} {q : Place} → p.at ≤ length s → read_item i s p ≡ got v q → (p.at ≤ q.at) × (q.at ≤ length s)
unfolding Owes
item_onward i s p h e = let o = rw e at (owes_item s p i h) in (o.0, o.1)

-- ---- pads lie in what was read

-- position i is from lo on, and before hi
abbrev pub In : (lo hi i : ℕ) → Type 0
In lo hi i = (lo ≤ i) × (i < hi)

given_is : {A : Type 0} {o : Out A} {a : A} {q : Place} (P : A → Place → Type 0) → o ≡ got a q → Given o P → P a q
given_is P e g = subst (λ (z : Out _). Given z P) e g

pub times_onward : (n : ℕ) (sc : Script) (s : List ℕ) (p : Place) {a : Found} {q : Place} → p.at ≤ length s → times n (follow sc) s p ≡ got a q → (p.at ≤ q.at) × (q.at ≤ length s)
times_onward n sc s p h e = onward (repeat n sc (λ a. give a)) s p h (repeat_is n sc s p ∙ e)

-- an opaque or a string that was read, by its span
record PartRead (s : List ℕ) (p : Place) (v : Value) (q : Place) : Type 0 where
  span : Span
  is : v ≡ part span
  read : OpaqueRead s p span q

opaque_part : (s : List ℕ) (p : Place) (v : Value) (q : Place) → read_item opaque s p ≡ got v q → PartRead s p v q
unfolding read_item
opaque_part s p v q e =
    let w = split (read_opaque s p) _ e in
    let f : got (part w.value) w.place ≡ got v q = w.second in
    let g : w.place ≡ q = cc in
    record { span = w.value; is = cc; read = subst (λ (z : Place). OpaqueRead s p w.value z) g (opaque_read s p w.value w.place w.first) }

record TextRead (s : List ℕ) (p : Place) (v : Value) (q : Place) : Type 0 where
  whole : PartRead s p v q
  text : utf8 (bytes s whole.span) ≡ true

string_part : (s : List ℕ) (p : Place) (v : Value) (q : Place) → read_item string s p ≡ got v q → TextRead s p v q
unfolding read_item
string_part s p v q e =
    let w = split (read_opaque s p) _ e in
    go w.value w.place (opaque_read s p w.value w.place w.first) (utf8 (bytes s w.value)) refl w.second
  where
    go : (x : Span) (d : Place) → OpaqueRead s p x d → (b : Bool) → utf8 (bytes s x) ≡ b → cond b (got (part x) d) (stop 7 (ill_at s x) p.steps) ≡ got v q → TextRead s p v q
    go x d r true t k =
        let g : d ≡ q = cc in
        record { whole = record { span = x; is = cc; read = subst (λ (z : Place). OpaqueRead s p x z) g r }; text = t }
    go x d r false t k = never k

part_pad_in : {s : List ℕ} {p : Place} {v : Value} {q : Place} → (r : PartRead s p v q) → (j : ℕ) → ItemPadRead opaque v j → In p.at q.at j
part_pad_in {v = v} r j h =
    let b : Behind r.span j = subst (λ (z : Value). ItemPadRead opaque z j) r.is h in
    (omega (arith, r.read.start, b.0), omega (arith, r.read.start, r.read.at, b.1))

item_pad_in : (i : Item) (s : List ℕ) (p : Place) (v : Value) (q : Place) → read_item i s p ≡ got v q → (j : ℕ) → ItemPadRead i v j → In p.at q.at j
item_pad_in word s p v q e j h = absurd h
item_pad_in (tested ok code) s p v q e j h = absurd h
item_pad_in long s p v q e j h = absurd h
item_pad_in int s p v q e j h = absurd h
item_pad_in (block w) s p v q e j h = absurd h
item_pad_in opaque s p v q e j h = part_pad_in (opaque_part s p v q e) j h
item_pad_in string s p v q e j h = part_pad_in (string_part s p v q e).whole j h

abbrev Bound : Script → Type 0
Bound sc = (s : List ℕ) (p : Place) (a : Found) (q : Place) → p.at ≤ length s → follow sc s p ≡ got a q → (i : ℕ) → PadRead sc s p i → In p.at q.at i

times_bound : (sc : Script) → Bound sc → (n : ℕ) (s : List ℕ) (p : Place) (a : Found) (q : Place) → p.at ≤ length s → times n (follow sc) s p ≡ got a q
    → (i : ℕ) → TimesPadRead n (follow sc) (λ z. PadRead sc s z) s p i → In p.at q.at i
unfolding times TimesPadRead
times_bound sc b zero s p a q h e i g = absurd g
times_bound sc b (suc n) s p a q h e i g =
    let w = split (follow sc s p) _ e in
    let v = split (times n (follow sc) s w.place) _ w.second in
    let j = onward sc s p h w.first in
    let k = times_onward n sc s w.place j.1 v.first in
    go w.first (last_place v.second) j.0 k.0 (λ x. times_bound sc b n s w.place v.value v.place j.1 v.first i x) g
  where
    go : {c : Found} {r d : Place} → follow sc s p ≡ got c r → d ≡ q → p.at ≤ r.at → r.at ≤ d.at
        → (TimesPadRead n (follow sc) (λ z. PadRead sc s z) s r i → In r.at d.at i)
        → PadRead sc s p i ⊎ Given (follow sc s p) (λ c z. TimesPadRead n (follow sc) (λ z. PadRead sc s z) s z i) → In p.at q.at i
    go {c} {r} {d} f y l m again (inl x) = let u = b s p c r h f i x in (u.0, rw (← y) (omega (arith, u.1)))
    go {c} {r} {d} f y l m again (inr x) =
        let u = again (given_is (λ c z. TimesPadRead n (follow sc) (λ z. PadRead sc s z) s z i) f x) in
        (omega (arith, u.0), rw (← y) u.1)

-- an opaque that was read with a script inside it, taken apart
pub record WithinRead (body : Script) (k : Span → Found → Script) (s : List ℕ) (p : Place) (a : Found) (q : Place) : Type 0 where
  pub span : Span
  pub behind : Place
  pub opens : read_opaque s p ≡ got span behind
  pub inner : Found
  pub last : Place
  pub holds : follow body (held_to span s) (place span.start behind.steps) ≡ got inner last
  pub rest : follow (k span inner) s (place behind.at last.steps) ≡ got a q

inside_is : (r : Reader Found) (x : Span) (s : List ℕ) (p : Place) {a : Found} {l : Place} → r (held_to x s) (place x.start p.steps) ≡ got a l → inside x r s p ≡ got a (place p.at l.steps)
unfolding inside
inside_is r x s p e = rw e

within_parts : (body : Script) (k : Span → Found → Script) (s : List ℕ) (p : Place) (a : Found) (q : Place) → follow (within body k) s p ≡ got a q → WithinRead body k s p a q
unfolding follow inside
within_parts body k s p a q e =
    let w = split (read_opaque s p) _ e in
    let v = split (inside w.value (follow body) s w.place) _ w.second in
    let z = split (follow body (held_to w.value s) (place w.value.start w.place.steps)) _ v.first in
    let c : z.value ≡ v.value = first_is z.second in
    let d : place w.place.at z.place.steps ≡ v.place = last_place z.second in
    record {
      span = w.value;
      behind = w.place;
      opens = w.first;
      inner = z.value;
      last = z.place;
      holds = z.first;
      rest = rw (c, d) v.second;
    }
  where
    first_is : {x y : Found} {i j : Place} → got x i ≡ got y j → x ≡ y
    first_is f = cc

-- how its parts lie
pub record WithinLies (s : List ℕ) (p : Place) (x : Span) (behind last q : Place) : Type 0 where
  pub opened : OpaqueRead s p x behind
  pub inner : x.start ≤ length (held_to x s)
  pub within : last.at ≤ x.start + x.count
  pub outer : behind.at ≤ length s
  pub after : behind.at ≤ q.at

pub within_lies : {body : Script} {k : Span → Found → Script} {s : List ℕ} {p : Place} {a : Found} {q : Place} (w : WithinRead body k s p a q) → WithinLies s p w.span w.behind w.last q
within_lies {body} {k} {s} {p} {a} {q} w =
    let r = opaque_read s p w.span w.behind w.opens in
    let l : length (held_to w.span s) ≡ w.span.start + w.span.count = held_to_end w.span s (rw r.start (omega (arith, r.fits))) in
    let i : w.span.start ≤ length (held_to w.span s) = rw l (omega arith) in
    let o = onward body (held_to w.span s) (place w.span.start w.behind.steps) i w.holds in
    let u : w.behind.at ≤ length s = rw r.at r.fits in
    let m = onward (k w.span w.inner) s (place w.behind.at w.last.steps) u w.rest in
    record { opened = r; inner = i; within = rw l at o.1; outer = u; after = m.0 }

bound : (sc : Script) → Bound sc
unfolding follow PadRead
bound (give a) s p b q h e i g = absurd g
bound (refuse code) s p b q h e i g = absurd g
bound (here k) s p a q h e i g = bound (k p.at) s p a q h e i g
bound (item j k) s p a q h e i g =
    let w = split (read_item j s p) _ e in
    let l = item_onward j s p h w.first in
    let m = onward (k w.value) s w.place l.1 w.second in
    go w.value w.place l.0 m.0 (λ x. item_pad_in j s p w.value w.place w.first i x) (λ x. bound (k w.value) s w.place a q l.1 w.second i x)
    (given_is (λ v z. ItemPadRead j v i ⊎ PadRead (k v) s z i) w.first g)
  where
    go : (v : Value) (r : Place) → p.at ≤ r.at → r.at ≤ q.at → (ItemPadRead j v i → In p.at r.at i) → (PadRead (k v) s r i → In r.at q.at i)
        → ItemPadRead j v i ⊎ PadRead (k v) s r i → In p.at q.at i
    go v r l m f t (inl x) = let u = f x in (u.0, omega (arith, u.1))
    go v r l m f t (inr x) = let u = t x in (omega (arith, u.0), u.1)
bound (within body k) s p a q h e i g =
    let w = within_parts body k s p a q e in
    let l = within_lies w in
    go l (λ x. bound body (held_to w.span s) (place w.span.start w.behind.steps) w.inner w.last l.inner w.holds i x)
    (λ x. bound (k w.span w.inner) s (place w.behind.at w.last.steps) a q l.outer w.rest i x)
    (inside_is (follow body) w.span s w.behind w.holds)
    (given_is (λ x z. Behind x i ⊎ (PadRead body (held_to x s) (record { at = x.start; steps = z.steps }) i ⊎ Given (inside x (follow body) s z) (λ b d. PadRead (k x b) s d i))) w.opens g)
  where
    go : {x : Span} {r d : Place} {b : Found} → WithinLies s p x r d q → (PadRead body (held_to x s) (place x.start r.steps) i → In x.start d.at i)
        → (PadRead (k x b) s (place r.at d.steps) i → In r.at q.at i) → inside x (follow body) s r ≡ got b (place r.at d.steps)
        → Behind x i ⊎ (PadRead body (held_to x s) (place x.start r.steps) i ⊎ Given (inside x (follow body) s r) (λ b d. PadRead (k x b) s d i)) → In p.at q.at i
    go l f t e (inl x) = (omega (arith, l.opened.start, x.0), omega (arith, l.opened.start, l.opened.at, l.after, x.1))
    go l f t e (inr (inl x)) = let u = f x in (omega (arith, l.opened.start, u.0), omega (arith, l.opened.start, l.opened.at, l.within, l.after, u.1))
    go {x = y} l f t e (inr (inr x)) = let u = t (given_is (λ b d. PadRead (k y b) s d i) e x) in (omega (arith, l.opened.at, u.0), u.1)
bound (repeat n body k) s p a q h e i g =
    let w = split (times n (follow body) s p) _ e in
    let l = times_onward n body s p h w.first in
    let m = onward (k w.value) s w.place l.1 w.second in
    go w.first l.0 m.0 (λ x. times_bound body (bound body) n s p w.value w.place h w.first i x) (λ x. bound (k w.value) s w.place a q l.1 w.second i x) g
  where
    go : {b : Found} {r : Place} → times n (follow body) s p ≡ got b r → p.at ≤ r.at → r.at ≤ q.at
        → (TimesPadRead n (follow body) (λ z. PadRead body s z) s p i → In p.at r.at i) → (PadRead (k b) s r i → In r.at q.at i)
        → TimesPadRead n (follow body) (λ z. PadRead body s z) s p i ⊎ Given (times n (follow body) s p) (λ b z. PadRead (k b) s z i) → In p.at q.at i
    go e l m f t (inl x) = let u = f x in (u.0, omega (arith, u.1))
    go e l m f t (inr x) = let u = t (given_is (λ b z. PadRead (k b) s z i) e x) in (omega (arith, u.0), u.1)

-- ---- bytes that are the same, but for pads

-- position by position, t has the bytes of s from lo to before hi
abbrev Same : (s t : List ℕ) → (lo hi : ℕ) → Type 0
Same s t lo hi = (i : ℕ) → In lo hi i → get_or t i 0 ≡ get_or s i 0

-- but for those at P
abbrev pub Unless : (P : ℕ → Type 0) → (s t : List ℕ) → (lo hi : ℕ) → Type 0
Unless P s t lo hi = (i : ℕ) → In lo hi i → (P i → ⊥) → get_or t i 0 ≡ get_or s i 0

neither : {A B : Type 0} → (A → ⊥) → (B → ⊥) → A ⊎ B → ⊥
neither f g (inl x) = f x
neither f g (inr x) = g x

-- in two parts, where what is at W is at P, in the first, or at Q, in the second
apart : {W P Q : ℕ → Type 0} (s t : List ℕ) {lo mid hi : ℕ} → lo ≤ mid → mid ≤ hi → ((i : ℕ) → W i → P i ⊎ Q i) → ((i : ℕ) → P i → In lo mid i) → ((i : ℕ) → Q i → In mid hi i)
    → Unless W s t lo hi → Unless P s t lo mid × Unless Q s t mid hi
apart s t l m parts before after same = (
  λ i o f. same i (o.0, omega (arith, o.1)) (λ x. neither f (λ y. omega (arith, (after i y).0, o.1)) (parts i x)),
  λ i o f. same i (omega (arith, o.0), o.1) (λ x. neither (λ y. omega (arith, (before i y).1, o.0)) f (parts i x)),
)

-- what is at P, or at what was given
or_given : {A P : Type 0} {o : Out A} {a : A} {q : Place} (Q : A → Place → Type 0) → o ≡ got a q → P ⊎ Given o Q → P ⊎ Q a q
or_given Q e (inl x) = inl x
or_given Q e (inr x) = inr (given_is Q e x)

-- ---- the same is read again

module _ (s t : List ℕ) where
  word_same : (at : ℕ) → Same s t at (at + 4) → be4 t at ≡ be4 s at
  unfolding be4
  word_same at h =
      let a = h at (omega arith, omega arith) in
      let b = h (at + 1) (omega arith, omega arith) in
      let c = h (at + 2) (omega arith, omega arith) in
      let d = h (at + 3) (omega arith, omega arith) in
      rw (a, b, c, d)

  cut_same : (at n : ℕ) → at + n ≤ length s → at + n ≤ length t → Same s t at (at + n) → take n (drop at t) ≡ take n (drop at s)
  cut_same at n h k e =
      let l : length (take n (drop at t)) ≡ n = length-take-le n (drop at t) (omega (arith, length-drop at t)) in
      let m : length (take n (drop at s)) ≡ n = length-take-le n (drop at s) (omega (arith, length-drop at s)) in
      ext_get_or 0 (take n (drop at t)) (take n (drop at s)) (l ∙ sym m) (λ i f.
      let g : i < n = omega arith in
      get_or-take n (drop at t) i 0 g ∙ get_or-drop at t i 0 ∙ e (at + i) (omega arith, omega arith) ∙ sym (get_or-drop at s i 0) ∙ sym (get_or-take n (drop at s) i 0 g))

  module _ (p : Place) (v : Value) (q : Place) (room : q.at ≤ length t) where
    -- an item of which every byte counts
    whole_again : (i : Item) → read_item i s p ≡ got v q → Same s t p.at q.at → read_item i t p ≡ got v q
    whole_again i e h =
        let r = sound_item i s p v q e in
        let b = take r.size (drop p.at s) in
        let n : length b ≡ r.size = length-take-le r.size (drop p.at s) (omega (arith, length-drop p.at s, r.fits)) in
        let k : p.at + r.size ≤ length t = rw r.at at room in
        let c : take r.size (drop p.at t) ≡ b = cut_same p.at r.size r.fits k (rw r.at at h) in
        let st : Stands t p.at b (drop r.size (drop p.at t)) = record { there = sym (take-append-drop r.size (drop p.at t)) ∙ ap (λ (l : List ℕ). l ++ drop r.size (drop p.at t)) c; fits = rw n k } in
        complete_item i p.at p.steps r.is st
        ∙ ap (λ (z : Place). got v z) (λ j. record { at = (ap (λ (m : ℕ). p.at + m) n ∙ sym r.at) j; steps = sym r.steps j })

    -- an opaque
    span_again : (x : Span) → OpaqueRead s p x q → be4 t p.at ≡ be4 s p.at → read_opaque t p ≡ got x q
    unfolding read_opaque fixed
    span_again x r e =
        let n : be4 t p.at ≡ x.count = e ∙ r.count in
        let k : p.at + (4 + padded x.count) ≤ length t = rw r.at at room in
        rw (le-leb (p.at + 4) (length t) (omega arith), n, le-leb x.count longest_opaque r.small, le-leb (p.at + awaited x.count) (length t) (omega arith))
        (λ j. got (record { start = sym r.start j; count = x.count }) (record { at = sym r.at j; steps = sym r.steps j }))

    -- a byte of a length word or a payload
    payload_byte : (r : PartRead s p v q) → Unless (ItemPadRead opaque v) s t p.at q.at → Same s t p.at (r.span.start + r.span.count)
    payload_byte r h i g =
        h i (g.0, omega (arith, r.read.start, r.read.at, g.1)) (λ b.
        let c : Behind r.span i = subst (λ (z : Value). ItemPadRead opaque z i) r.is b in
        omega (arith, c.0, g.1))

    part_again : read_item opaque s p ≡ got v q → Unless (ItemPadRead opaque v) s t p.at q.at → read_item opaque t p ≡ got v q
    unfolding read_item
    part_again e h =
        let r = opaque_part s p v q e in
        rw (span_again r.span r.read (word_same p.at (λ i g. payload_byte r h i (g.0, omega (arith, r.read.start, g.1))))) (ap (λ (z : Value). got z q) (sym r.is))

    text_again : read_item string s p ≡ got v q → Unless (ItemPadRead opaque v) s t p.at q.at → read_item string t p ≡ got v q
    unfolding read_item
    text_again e h =
        let u = string_part s p v q e in
        let r = u.whole in
        let x = r.span in
        let l : x.start + x.count ≤ q.at = omega (arith, r.read.start, r.read.at) in
        let k : bytes t x ≡ bytes s x = cut_same x.start x.count (omega (arith, r.read.start, r.read.fits)) (omega arith) (λ i g. payload_byte r h i (omega (arith, r.read.start, g.0), g.1)) in
        let y : utf8 (bytes t x) ≡ true = ap utf8 k ∙ u.text in
        rw (span_again x r.read (word_same p.at (λ i g. payload_byte r h i (g.0, omega (arith, r.read.start, g.1)))), y) (ap (λ (z : Value). got z q) (sym r.is))

    item_again : (i : Item) → read_item i s p ≡ got v q → Unless (ItemPadRead i v) s t p.at q.at → read_item i t p ≡ got v q
    item_again word e h = whole_again word e (λ j g. h j g (λ x. x))
    item_again (tested ok code) e h = whole_again (tested ok code) e (λ j g. h j g (λ x. x))
    item_again long e h = whole_again long e (λ j g. h j g (λ x. x))
    item_again int e h = whole_again int e (λ j g. h j g (λ x. x))
    item_again (block w) e h = whole_again (block w) e (λ j g. h j g (λ x. x))
    item_again opaque e h = part_again e h
    item_again string e h = text_again e h

-- ---- a script, and its parts

-- a reader gave a of s, from p to q, and t has the bytes of s there, but for those at P
pub record Both (r : Reader Found) (P : List ℕ → Place → ℕ → Type 0) (s t : List ℕ) (p : Place) (a : Found) (q : Place) : Type 0 where
  pub fits : p.at ≤ length s
  pub reads : r s p ≡ got a q
  pub room : q.at ≤ length t
  pub alike : Unless (P s p) s t p.at q.at

-- a script did, and t has all but its pads; and a script, so many times over
abbrev pub Alike : Script → (s t : List ℕ) → Place → Found → Place → Type 0
Alike sc = Both (follow sc) (PadRead sc)

abbrev pub AlikeTimes : ℕ → Script → (s t : List ℕ) → Place → Found → Place → Type 0
AlikeTimes n sc = Both (times n (follow sc)) (λ s p. TimesPadRead n (follow sc) (λ z. PadRead sc s z) s p)

-- what was read of s first is read of t, and the script that follows it is alike
pub record Goes {A : Type 0} (o u : Out A) (k : A → Script) (s t : List ℕ) (a : Found) (q : Place) : Type 0 where
  pub value : A
  pub next : Place
  pub first : o ≡ got value next
  pub again : u ≡ got value next
  pub rest : Alike (k value) s t next a q

-- one of so many, and those behind it
pub record TurnGoes (n : ℕ) (sc : Script) (s t : List ℕ) (p : Place) (a : Found) (q : Place) : Type 0 where
  pub one : Found
  pub next : Place
  pub first : Alike sc s t p one next
  pub others : Found
  pub rest : AlikeTimes n sc s t next others q
  pub found : one ⊞ others ≡ a

-- so many, and what follows them
pub record RepeatGoes (n : ℕ) (body : Script) (k : Found → Script) (s t : List ℕ) (p : Place) (a : Found) (q : Place) : Type 0 where
  pub all : Found
  pub next : Place
  pub first : AlikeTimes n body s t p all next
  pub rest : Alike (k all) s t next a q

-- an opaque, what is inside it, and what follows it
pub record WithinGoes (body : Script) (k : Span → Found → Script) (s t : List ℕ) (p : Place) (a : Found) (q : Place) : Type 0 where
  pub read : WithinRead body k s p a q
  pub again : read_opaque t p ≡ got read.span read.behind
  pub inside : Alike body (held_to read.span s) (held_to read.span t) (place read.span.start read.behind.steps) read.inner read.last
  pub rest : Alike (k read.span read.inner) s t (place read.behind.at read.last.steps) a q

module _ {s t : List ℕ} {p : Place} {a : Found} {q : Place} where
  pub here_goes : (k : ℕ → Script) → Alike (here k) s t p a q → Alike (k p.at) s t p a q
  unfolding follow PadRead
  here_goes k b = record { fits = b.fits; reads = b.reads; room = b.room; alike = b.alike }

  pub item_goes : (j : Item) (k : Value → Script) → Alike (item j k) s t p a q → Goes (read_item j s p) (read_item j t p) k s t a q
  unfolding follow PadRead
  item_goes j k b =
      let w = split (read_item j s p) _ b.reads in
      let l = item_onward j s p b.fits w.first in
      let m = onward (k w.value) s w.place l.1 w.second in
      let c =
      apart s t l.0 m.0 (λ i. given_is (λ v z. ItemPadRead j v i ⊎ PadRead (k v) s z i) w.first)
      (item_pad_in j s p w.value w.place w.first) (bound (k w.value) s w.place a q l.1 w.second) b.alike in
      record {
        value = w.value;
        next = w.place;
        first = w.first;
        again = item_again s t p w.value w.place (omega (arith, m.0, b.room)) j w.first c.0;
        rest = record { fits = l.1; reads = w.second; room = b.room; alike = c.1 };
      }

  pub turn_goes : (n : ℕ) (sc : Script) → AlikeTimes (suc n) sc s t p a q → TurnGoes n sc s t p a q
  unfolding times TimesPadRead
  turn_goes n sc b =
      let w = split (follow sc s p) _ b.reads in
      let v = split (times n (follow sc) s w.place) _ w.second in
      let e : times n (follow sc) s w.place ≡ got v.value q = v.first ∙ ap (λ (z : Place). got v.value z) (last_place v.second) in
      let l = onward sc s p b.fits w.first in
      let m = times_onward n sc s w.place l.1 e in
      let c =
      apart s t l.0 m.0 (λ i. or_given (λ c z. TimesPadRead n (follow sc) (λ z. PadRead sc s z) s z i) w.first)
      (bound sc s p w.value w.place b.fits w.first) (times_bound sc (bound sc) n s w.place v.value q l.1 e) b.alike in
      record {
        one = w.value;
        next = w.place;
        first = record { fits = b.fits; reads = w.first; room = omega (arith, m.0, b.room); alike = c.0 };
        others = v.value;
        rest = record { fits = l.1; reads = e; room = b.room; alike = c.1 };
        found = value_is v.second;
      }
    where
      value_is : {c d : Found} {z : Place} → got c z ≡ got d q → c ≡ d
      value_is f = cc

  pub repeat_goes : (n : ℕ) (body : Script) (k : Found → Script) → Alike (repeat n body k) s t p a q → RepeatGoes n body k s t p a q
  unfolding follow PadRead
  repeat_goes n body k b =
      let w = split (times n (follow body) s p) _ b.reads in
      let l = times_onward n body s p b.fits w.first in
      let m = onward (k w.value) s w.place l.1 w.second in
      let c =
      apart s t l.0 m.0 (λ i. or_given (λ b z. PadRead (k b) s z i) w.first)
      (times_bound body (bound body) n s p w.value w.place b.fits w.first) (bound (k w.value) s w.place a q l.1 w.second) b.alike in
      record {
        all = w.value;
        next = w.place;
        first = record { fits = b.fits; reads = w.first; room = omega (arith, m.0, b.room); alike = c.0 };
        rest = record { fits = l.1; reads = w.second; room = b.room; alike = c.1 };
      }

  pub within_goes : (body : Script) (k : Span → Found → Script) → Alike (within body k) s t p a q → WithinGoes body k s t p a q
  unfolding PadRead
  within_goes body k b = let w = within_parts body k s p a q b.reads in go w (within_lies w)
    where
      go : (w : WithinRead body k s p a q) → WithinLies s p w.span w.behind w.last q → WithinGoes body k s t p a q
      go w l =
          let x = w.span in
          let inner : Place = place x.start w.behind.steps in
          let outer : Place = place w.behind.at w.last.steps in
          let none : (i : ℕ) → (Behind x i → ⊥) → (PadRead body (held_to x s) inner i → ⊥) → (PadRead (k x w.inner) s outer i → ⊥) → PadRead (within body k) s p i → ⊥ =
          λ i f g h y.
          neither f (neither g (λ z. h (given_is (λ b d. PadRead (k x b) s d i) (inside_is (follow body) x s w.behind w.holds) z)))
          (given_is (λ y z. Behind y i ⊎ (PadRead body (held_to y s) (record { at = y.start; steps = z.steps }) i ⊎ Given (inside y (follow body) s z) (λ b d. PadRead (k y b) s d i))) w.opens y) in
          let in_body : (i : ℕ) → PadRead body (held_to x s) inner i → In x.start w.last.at i = bound body (held_to x s) inner w.inner w.last l.inner w.holds in
          let in_rest : (i : ℕ) → PadRead (k x w.inner) s outer i → In w.behind.at q.at i = bound (k x w.inner) s outer a q l.outer w.rest in
          let tall : length (held_to x t) ≡ x.start + x.count = held_to_end x t (omega (arith, l.opened.start, l.opened.at, l.after, b.room)) in
          record {
            read = w;
            again = span_again s t p (part x) w.behind (omega (arith, l.after, b.room)) x l.opened (word_same s t p.at (λ i o.
                b.alike i (o.0, omega (arith, o.1, l.opened.at, l.after))
                (none i (λ z. omega (arith, z.0, o.1, l.opened.start)) (λ z. omega (arith, (in_body i z).0, o.1, l.opened.start)) (λ z. omega (arith, (in_rest i z).0, o.1, l.opened.at)))));
            inside = record {
              fits = l.inner;
              reads = w.holds;
              room = rw tall l.within;
              alike = λ i o f.
                  let g : i < x.start + x.count = omega (arith, o.1, l.within) in
                  get_or-take (x.start + x.count) t i 0 g
                  ∙ b.alike i (omega (arith, o.0, l.opened.start), omega (arith, g, l.opened.start, l.opened.at, l.after))
                  (none i (λ z. omega (arith, z.0, g)) f (λ z. omega (arith, (in_rest i z).0, g, l.opened.start, l.opened.at)))
                  ∙ sym (get_or-take (x.start + x.count) s i 0 g);
            };
            rest = record {
              fits = l.outer;
              reads = w.rest;
              room = b.room;
              alike = λ i o f. b.alike i (omega (arith, o.0, l.opened.at), o.1)
                  (none i (λ z. omega (arith, z.1, o.0, l.opened.start, l.opened.at)) (λ z. omega (arith, (in_body i z).1, o.0, l.within, l.opened.start, l.opened.at)) f);
            };
          }

-- ---- so it is read of t

abbrev pub Again : Script → Type 0
Again sc = (s t : List ℕ) (p : Place) (a : Found) (q : Place) → Alike sc s t p a q → follow sc t p ≡ got a q

pub times_again : (sc : Script) → Again sc → (n : ℕ) (s t : List ℕ) (p : Place) (a : Found) (q : Place) → AlikeTimes n sc s t p a q → times n (follow sc) t p ≡ got a q
unfolding times
times_again sc g zero s t p a q b = b.reads
times_again sc g (suc n) s t p a q b =
    let c = turn_goes n sc b in
    rw (g s t p c.one c.next c.first, times_again sc g n s t c.next c.others q c.rest) (ap (λ (f : Found). got f q) c.found)

within_is : (body : Script) (k : Span → Found → Script) (t : List ℕ) (p : Place) {x : Span} {b : Place} {c : Found} {l : Place} {a : Found} {q : Place}
    → read_opaque t p ≡ got x b → follow body (held_to x t) (place x.start b.steps) ≡ got c l → follow (k x c) t (place b.at l.steps) ≡ got a q → follow (within body k) t p ≡ got a q
unfolding follow inside
within_is body k t p e f g = rw (e, f, g)

pub again : (sc : Script) → Again sc
unfolding follow PadRead
again (give a) s t p c q b = b.reads
again (refuse code) s t p a q b = never b.reads
again (here k) s t p a q b = again (k p.at) s t p a q (here_goes k b)
again (item j k) s t p a q b = let c = item_goes j k b in rw c.again (again (k c.value) s t c.next a q c.rest)
again (within body k) s t p a q b =
    let c = within_goes body k b in
    let w = c.read in
    within_is body k t p c.again (again body (held_to w.span s) (held_to w.span t) (place w.span.start w.behind.steps) w.inner w.last c.inside)
    (again (k w.span w.inner) s t (place w.behind.at w.last.steps) a q c.rest)
again (repeat n body k) s t p a q b =
    let c = repeat_goes n body k b in
    rw (times_again body (again body) n s t p c.all c.next c.first) (again (k c.all) s t c.next a q c.rest)

-- ---- one datagram

-- the reading of a datagram that s begins with, and an input that is the same but for its pads
pub reading_alike : {mode : Mode} {s t : List ℕ} {f : Found} {bytes items : ℕ} (r : Allowed mode 0 s f bytes items) → SameButPads mode r t → Alike (datagram_to mode r.reading.levels) s t (from 0) f (place bytes items)
reading_alike {mode} {s} {t} {f} {bytes} {items} r b =
    let n = r.reading.levels in
    let g = r.reading.begins in
    record {
      fits = omega arith;
      reads = given mode n s r.reading (no_deeper mode n 0 g.read f items g.is);
      room = b.long;
      alike = λ i o h. b.alike i o.1 (λ x. h ((agree (datagram_to mode n) 0 g.read f items g.is s g.rest 0 (record { there = g.joined; fits = rw (g.joined, length-append) (omega arith) }) i).0 x));
    }

-- so t begins with a datagram in which the same is found
pub reading_again : {mode : Mode} {s t : List ℕ} {f : Found} {bytes items : ℕ} (r : Allowed mode 0 s f bytes items) → SameButPads mode r t → Allowed mode 0 t f bytes items
reading_again {mode} {s} {t} {f} {bytes} {items} r b =
    let n = r.reading.levels in
    let d = sound (datagram_to mode n) t (from 0) f (place bytes items) (omega arith) (again (datagram_to mode n) s t (from 0) f (place bytes items) (reading_alike r b)) in
    record {
      reading = record {
        levels = n;
        begins = record {
          read = d.read;
          rest = d.rest;
          joined = d.stands.there;
          long = sym (d.at ∙ zero-add _);
          is = subst (λ (m : ℕ). Is (datagram_to mode n) 0 d.read f m) (sym (d.steps ∙ zero-add _)) d.is;
        };
      };
      shallow = r.shallow;
    }

module _ (mode : Mode) (s t w : List ℕ) where
  -- two inputs within the limit that are read alike are answered alike
  alike_answered : length s ≤ longest_input → length t ≤ longest_input → follow (datagram mode) t (from 0) ≡ follow (datagram mode) s (from 0) → one mode t w ≡ one mode s w
  unfolding one
  alike_answered h k e = rw (le-leb (length s) longest_input h, le-leb (length t) longest_input k, e)

  pub pads_free : {f : Found} {bytes items : ℕ} (r : Allowed mode 0 s f bytes items) → length s ≤ longest_input → length t ≤ longest_input → SameButPads mode r t → one mode t w ≡ one mode s w
  pads_free r h k b = let q = reading_again r b in alike_answered h k (given mode depth_limit t q.reading q.shallow ∙ sym (given mode depth_limit s r.reading r.shallow))
