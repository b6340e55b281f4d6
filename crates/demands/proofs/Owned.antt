-- Demand 3: each step owns four bytes that no other owns, accepted or refused. By induction on the reading, and on where it stops. Assumes nothing.
use Prim.Native.Nat.{ℕ, zero, suc, ◌+◌, ◌*◌, ◌≤◌, ◌<◌}
use mathlib.Core.Path.{◌≡◌, refl, sym, ap, ◌∙◌}
use mathlib.Core.List.{List, [], ◌∷◌, ◌++◌}
use native.Mathlib.Omega.{arith}
use native.Mathlib.Nat.{le_refl, add_assoc}
use lib.ListN.{length, take, drop, length-append, length-drop, length-take}
use Rattle.reading.specs.Script.{Width, four, six, eight, sixteen, octet_count, Value, Found, Item, word, tested, long, int, block, opaque, string, Script, give, refuse, here, item, within, repeat, Forest}
use Rattle.reading.specs.Grammar.{IsItem, Meaning, Many, Is}
use Rattle.reading.specs.Layout.{Mode, datagram_to, datagram}
use Rattle.reading.specs.Values.{alone}
use Rattle.reading.specs.Answer.{one, run, layout_of, Fields, read}
use Rattle.demands.specs.Stops.{Stops, barred, standing, no_item, not_text, past_item, no_opaque, inside_it, past_it, among, past_all}
use Rattle.demands.specs.Readings.{Allowed}
use Rattle.demands.specs.Tries.{Run, over, next, cut, RunStops, this, later}
use Rattle.demands.specs.FieldsItemised.{only_values, read_whole, stopped_at, FieldsItemised, too_long as long_fields, passes, other, held}
use Rattle.demands.specs.Owned.{firsts_of_many, firsts, firsts_before, firsts_of, run_firsts, run_firsts_before, Apart, none, and, Own, Counted, too_long, faulty, whole, RunCounted, too_long as run_long, faulty as run_faulty, whole as run_whole, FieldsCounted, not_read, faulty as fields_faulty, whole as fields_whole}
use Rattle.demands.proofs.Enclosed.{opaque_long}
use Rattle.demands.proofs.Itemised.{by_items}
use Rattle.demands.proofs.Accepted.{one_reads}
use Rattle.demands.proofs.RunItemised.{run_reads}
use Rattle.demands.proofs.FieldsItemised.{fields_itemised}

-- ---- positions

forward : {lo hi : ℕ} {l : List ℕ} → Apart lo hi l → lo ≤ hi
forward (none h) = h
forward (and h t) = let k = forward t in omega arith

sooner : {lo hi : ℕ} {l : List ℕ} (m : ℕ) → m ≤ lo → Apart lo hi l → Apart m hi l
sooner {hi = hi} m k (none h) = let z : m ≤ hi = omega arith in none z
sooner m k (and {i = i} h t) = let z : m ≤ i = omega arith in and z t

farther : {lo hi : ℕ} {l : List ℕ} (m : ℕ) → hi ≤ m → Apart lo hi l → Apart lo m l
farther {lo = lo} m k (none h) = let z : lo ≤ m = omega arith in none z
farther m k (and h t) = and h (farther m k t)

apart_on : {lo m hi : ℕ} {l r : List ℕ} → Apart lo m l → Apart m hi r → Apart lo hi (l ++ r)
apart_on {lo} (none h) u = sooner lo h u
apart_on (and h t) u = and h (apart_on t u)

-- none; one more in front; and two runs of them
no_more : {lo hi n : ℕ} → lo ≤ hi → n ≡ 0 → Own lo hi n []
no_more h e = record { each = sym e; apart = none h }

one_more : {o m hi n k : ℕ} {l : List ℕ} → o + 4 ≤ m → k ≡ 1 + n → Own m hi n l → Own o hi k (o ∷ l)
one_more {o} h e t = record { each = ap suc t.each ∙ omega arith; apart = and (le_refl o) (sooner _ (omega arith) t.apart) }

and_on : {lo m hi n k j : ℕ} {l r : List ℕ} → j ≡ n + k → Own lo m n l → Own m hi k r → Own lo hi j (l ++ r)
and_on {l = l} {r} e t u = record { each = length-append l r ∙ omega (arith, t.each, u.each); apart = apart_on t.apart u.apart }

-- to further behind
widen : {lo m n : ℕ} {l : List ℕ} (hi : ℕ) → m ≤ hi → Own lo m n l → Own lo hi n l
widen hi h t = record { each = t.each; apart = farther hi h t.apart }

-- so there are four bytes for each
pub own_bound : {lo hi n : ℕ} {l : List ℕ} → Own lo hi n l → lo + 4 * n ≤ hi
own_bound {lo} {hi} {n} {l} t = omega (arith, t.each, apart_bound t.apart)
  where
    apart_bound : {lo hi : ℕ} {l : List ℕ} → Apart lo hi l → lo + 4 * length l ≤ hi
    apart_bound (none h) = omega arith
    apart_bound (and h k) = let r = apart_bound k in omega (arith, r)

-- ---- an item has four bytes at least

wide : (w : Width) → 4 ≤ octet_count w
wide four = omega arith
wide six = omega arith
wide eight = omega arith
wide sixteen = omega arith

item_long : (i : Item) (o : ℕ) (b : List ℕ) (v : Value) → IsItem i o b v → 4 ≤ length b
unfolding IsItem
item_long word o b v (e, _) = omega arith
item_long (tested ok code) o b v (e, _, _) = omega arith
item_long long o b v (e, _) = omega arith
item_long int o b v (e, _) = omega arith
item_long (block w) o b v (e, _) = let h = wide w in omega arith
item_long opaque o b v (x, q, _) = let h = opaque_long q in omega arith
item_long string o b v (x, q, _, _) = let h = opaque_long q in omega arith

-- ---- a reading

own_many : (c : ℕ) (P : Meaning) (each : (o : ℕ) (b : List ℕ) (f : Found) (n : ℕ) → P o b f n → List ℕ)
    → ((o : ℕ) (b : List ℕ) (f : Found) (n : ℕ) (t : P o b f n) → Own o (o + length b) n (each o b f n t))
    → (o : ℕ) (b : List ℕ) (f : Found) (n : ℕ) (t : Many c P o b f n) → Own o (o + length b) n (firsts_of_many c P each o b f n t)
unfolding Many firsts_of_many
own_many zero P each own o b f n (e, _, m) = no_more (omega arith) m
own_many (suc c) P each own o b f n (x, y, g, h, m, l, e, _, k, t, u) =
    let z = ap length e ∙ length-append x y in
    widen (o + length b) (omega arith) (and_on k (own o x g m t) (own_many c P each own (o + length x) y h l u))

pub own : (sc : Script) (o : ℕ) (b : List ℕ) (f : Found) (n : ℕ) (t : Is sc o b f n) → Own o (o + length b) n (firsts sc o b f n t)
unfolding Is firsts
own (give a) o b f n (e, _, m) = no_more (omega arith) m
own (refuse code) o b f n t = absurd t
own (here k) o b f n t = own (k o) o b f n t
own (item i k) o b f n (x, y, v, m, e, c, j, t) =
    let z = ap length e ∙ length-append x y in
    let h = item_long i o x v j in
    one_more (omega arith) c (widen (o + length b) (omega arith) (own (k v) (o + length x) y f m t))
own (within body k) o b f n (u, y, x, inner, rest, a, m, l, e, c, q, j, t, v) =
    let z = ap length e ∙ length-append u y in
    let w = ap length j ∙ length-append inner rest in
    let h = opaque_long q in
    one_more (omega arith) (c ∙ add_assoc 1 m l) (widen (o + length b) (omega arith)
    (and_on refl (widen (o + length u) (omega arith) (own body (o + 4) inner a m t)) (own (k (record { start = o + 4; count = length x }) a) (o + length u) y f l v)))
own (repeat c body k) o b f n (x, y, a, m, l, e, j, t, v) =
    let z = ap length e ∙ length-append x y in
    widen (o + length b) (omega arith) (and_on j (own_many c (Is body) (firsts body) (own body) o x a m t) (own (k a) (o + length x) y f l v))

-- ---- a reading that stops

pub own_before : {sc : Script} {o c i n : ℕ} {b : List ℕ} (t : Stops sc o b c i n) → Own o (o + length b) n (firsts_before t)
unfolding firsts_before
own_before (barred e f g) = no_more (omega arith) g
own_before (standing t) = own_before t
own_before (no_item m e f) = no_more (omega arith) f
own_before (not_text x j q l g z e f) = no_more (omega arith) f
own_before {o = o} {b = b} (past_item {i} x y v m e f j t) =
    let z = ap length e ∙ length-append x y in
    let h = item_long i o x v j in
    one_more (omega arith) f (widen (o + length b) (omega arith) (own_before t))
own_before (no_opaque m e f) = no_more (omega arith) f
own_before {o = o} {b = b} (inside_it x m f q t) =
    let z = ap length q.joined ∙ length-append q.read q.rest in
    one_more (le_refl (o + 4)) f (widen (o + length b) (omega (arith, z, opaque_long q.is)) (own_before t))
own_before {o = o} {b = b} (past_it {body} x u y inner rest a m l e f q j r t) =
    let z = ap length e ∙ length-append u y in
    let w = ap length j ∙ length-append inner rest in
    let h = opaque_long q in
    one_more (le_refl (o + 4)) (f ∙ add_assoc 1 m l)
    (widen (o + length b) (omega arith) (and_on refl (widen (o + length u) (omega arith) (own body (o + 4) inner a m r)) (own_before t)))
own_before {o = o} {b = b} (among {body = body} j x y a m l k e f r t) =
    let z = ap length e ∙ length-append x y in
    widen (o + length b) (omega arith) (and_on f (own_many j (Is body) (firsts body) (own body) o x a m r) (own_before t))
own_before {o = o} {b = b} (past_all {c} {body} x y a m l e f r t) =
    let z = ap length e ∙ length-append x y in
    widen (o + length b) (omega arith) (and_on f (own_many c (Is body) (firsts body) (own body) o x a m r) (own_before t))

-- ---- a datagram, and a run

own_allowed : {mode : Mode} {o : ℕ} {b : List ℕ} {f : Found} {bytes items : ℕ} (r : Allowed mode o b f bytes items) → Own o (o + bytes) items (firsts_of r)
own_allowed {mode} {o} {f = f} {bytes} {items} r = let i = r.reading.begins in widen (o + bytes) (omega (arith, i.long)) (own (datagram_to mode r.reading.levels) o i.read f items i.is)

module _ (mode : Mode) (s : List ℕ) where
  own_tried : {at c i n : ℕ} → at < length s → (t : Stops (datagram mode) at (drop at s) c i n) → Own at (length s) n (firsts_before t)
  own_tried {at} h t = widen (length s) (omega (arith, length-drop at s)) (own_before t)

  own_run : {at end n : ℕ} {g : Forest} (t : Run mode s at g end n) → Own at (length s) n (run_firsts t)
  unfolding run_firsts
  own_run (over e f m z) = no_more (omega arith) m
  own_run (next f bytes items h m d e z t) = and_on e (own_allowed d.allowed) (own_run t)
  own_run (cut h i t e z) = own_tried h t

  own_run_before : {at c i n : ℕ} (t : RunStops mode s at c i n) → Own at (length s) n (run_firsts_before t)
  unfolding run_firsts_before
  own_run_before (this h t z) = own_tried h t
  own_run_before (later f bytes items m d e t) = and_on e (own_allowed d.allowed) (own_run_before t)

-- ---- the calls

-- so many are as many
as_many : {lo hi n k : ℕ} {l : List ℕ} → k ≡ n → Own lo hi n l → Own lo hi k l
as_many e t = record { each = t.each ∙ sym e; apart = t.apart }

module _ (mode : Mode) (s w : List ℕ) where
  own_reading : {f : Found} {bytes items : ℕ} (r : Allowed mode 0 s f bytes items) → Own 0 (length s) items (firsts_of r)
  own_reading r =
      let b = r.reading.begins in
      let z = ap length b.joined ∙ length-append b.read b.rest in
      widen (length s) (omega (arith, z, b.long)) (own_allowed r)

  pub one_owns : (at : List ℕ) × Counted mode s at × Own 0 (length s) (one mode s w).steps at
  one_owns =
      by_items (one_reads mode) (λ n. (at : List ℕ) × Counted mode s at × Own 0 (length s) n at) s w (λ h. ([], too_long h, no_more (omega arith) refl))
      (λ c i n t. (firsts_before t, faulty t, widen (length s) (omega arith) (own_before t))) (λ f bytes items r. (_, whole r, own_reading r))

  pub run_owns : (at : List ℕ) × RunCounted mode s at × Own 0 (length s) (run mode s w).steps at
  run_owns =
      by_items (run_reads mode) (λ n. (at : List ℕ) × RunCounted mode s at × Own 0 (length s) n at) s w (λ h. ([], run_long h, no_more (omega arith) refl))
      (λ c i n t. (run_firsts_before t, run_faulty t, own_run_before mode s t)) (λ g end n t. (run_firsts t, run_whole t, own_run mode s t))

module _ (mode : Mode) (ak af : ℕ) (s : List ℕ) (k f start extent : ℕ) where
  pub fields_own : (at : List ℕ) × FieldsCounted mode ak af s k f start extent at × Own start (start + extent) (read mode ak af s k f start extent).steps at
  fields_own = go (read mode ak af s k f start extent) (fields_itemised mode ak af s k f start extent)
    where
      l : length (take extent (drop start s)) ≤ extent
      l = omega (arith, length-take extent (drop start s))

      go : (a : Fields) → FieldsItemised mode ak af s k f start extent a → (at : List ℕ) × FieldsCounted mode ak af s k f start extent at × Own start (start + extent) a.steps at
      go a (long_fields h e) = ([], not_read (λ x y u v. omega arith), no_more (omega arith) (ap (λ (b : Fields). b.steps) e))
      go a (passes h i e) = ([], not_read (λ x y u v. omega arith), no_more (omega arith) (ap (λ (b : Fields). b.steps) e))
      go a (other h i n e) = ([], not_read (λ x y u v. n (u, v)), no_more (omega arith) (ap (λ (b : Fields). b.steps) e))
      go a (held h i x y (stopped_at c j n t e)) = (firsts_before t, fields_faulty t, as_many (ap (λ (b : Fields). b.steps) e) (widen (start + extent) (omega (arith, l)) (own_before t)))
      go a (held h i x y (read_whole vs bytes items r e)) =
          let z = ap length r.joined in (
            _,
            fields_whole r,
            as_many (ap (λ (b : Fields). b.steps) e) (widen (start + extent) (omega (arith, l, simp length-append at z)) (own (alone (layout_of mode ak af)) start r.read (only_values vs) items r.is)),
          )
