-- The pads of what the cursor reads, and that they are those of the reading by the grammar. Assumes nothing.
use Prim.Native.Nat.{ℕ, zero, suc, ◌+◌, ◌-◌, ◌≤◌, ◌<◌}
use mathlib.Core.Logic.{◌⊎◌, inl, inr, ◌↔◌}
use mathlib.Core.Path.{◌≡◌, sym, ap, ◌∙◌, subst}
use mathlib.Core.List.{List, [], ◌++◌}
use native.Mathlib.Omega.{arith}
use lib.ListN.{length, take, length-append}
use Rattle.reading.specs.Bytes.{padded}
use Rattle.reading.specs.Script.{Span, Value, number, integer, octets, address, part, Found, Item, word, tested, long, int, block, opaque, string, Script, give, refuse, here, item, within, repeat}
use Rattle.reading.specs.Cursor.{Place, Out, got, stop, Reader, read_opaque, read_item, times, held_to, inside, follow}
use Rattle.reading.specs.Grammar.{Opaque, IsItem, Many, Is}
use Rattle.reading.proofs.Stands.{place, Stands, front, back, opaque_there, payload_there, held}
use Rattle.reading.proofs.Complete.{complete_item, complete_many, complete}
use Rattle.demands.specs.Pads.{InPad, ItemPad, ManyPad, Pad}

-- of what was given; a refusal has none
abbrev pub Given : {A : Type 0} → Out A → (A → Place → Type 0) → Type 0
Given (got a q) P = P a q
Given (stop c a n) P = ⊥

-- position i is in the pad behind a span
abbrev pub Behind : Span → ℕ → Type 0
Behind x i = (x.start + x.count ≤ i) × (i < x.start + padded x.count)

abbrev pub BehindValue : Value → ℕ → Type 0
BehindValue (number n) i = ⊥
BehindValue (integer z) i = ⊥
BehindValue (octets b) i = ⊥
BehindValue (address t b) i = ⊥
BehindValue (part x) i = Behind x i

-- it is in the pad of an item that gave v: only an opaque and a string have one
abbrev pub ItemPadRead : Item → Value → ℕ → Type 0
ItemPadRead word v i = ⊥
ItemPadRead (tested ok code) v i = ⊥
ItemPadRead long v i = ⊥
ItemPadRead int v i = ⊥
ItemPadRead (block w) v i = ⊥
ItemPadRead opaque v i = BehindValue v i
ItemPadRead string v i = BehindValue v i

-- of one of so many in a row
unfoldable pub TimesPadRead : ℕ → Reader Found → (Place → ℕ → Type 0) → List ℕ → Place → ℕ → Type 0
TimesPadRead zero r P s p i = ⊥
TimesPadRead (suc n) r P s p i = P p i ⊎ Given (r s p) (λ a q. TimesPadRead n r P s q i)

-- position i is in a pad of what the script reads of s from p on
unfoldable pub PadRead : Script → List ℕ → Place → ℕ → Type 0
unfolding TimesPadRead
PadRead (give a) s p i = ⊥
PadRead (refuse code) s p i = ⊥
PadRead (here k) s p i = PadRead (k p.at) s p i
PadRead (item j k) s p i = Given (read_item j s p) (λ v q. ItemPadRead j v i ⊎ PadRead (k v) s q i)
PadRead (within body k) s p i =
    Given (read_opaque s p) (λ x q.
    Behind x i ⊎ (PadRead body (held_to x s) (record { at = x.start; steps = q.steps }) i ⊎ Given (inside x (follow body) s q) (λ a e. PadRead (k x a) s e i)))
PadRead (repeat n body k) s p i = TimesPadRead n (follow body) (λ q. PadRead body s q) s p i ⊎ Given (times n (follow body) s p) (λ a q. PadRead (k a) s q i)

-- ---- they are the pads of the reading by the grammar

given_got : {A : Type 0} {o : Out A} {a : A} {q : Place} (P : A → Place → Type 0) → o ≡ got a q → P a q ↔ Given o P
given_got P e = (λ x. subst (λ (z : Out _). Given z P) (sym e) x, λ x. subst (λ (z : Out _). Given z P) e x)

either : {A B C D : Type 0} → A ↔ B → C ↔ D → (A ⊎ C) ↔ (B ⊎ D)
either (f, g) (h, k) = (to f h, to g k)
  where
    to : {A B C D : Type 0} → (A → B) → (C → D) → A ⊎ C → B ⊎ D
    to f h (inl x) = inl (f x)
    to f h (inr x) = inr (h x)

trans : {A B C : Type 0} → A ↔ B → B ↔ C → A ↔ C
trans (f, g) (h, k) = (λ x. h (f x), λ x. g (k x))

same : {A : Type 0} → A ↔ A
same = (λ x. x, λ x. x)

-- the pad of an opaque, as a dump shows it: behind the length word and the bytes that it counts, before the end of the opaque
pub in_a_dump : {x u : List ℕ} (o : ℕ) (q : Opaque x u) (i : ℕ) → InPad o q i ↔ ((o + 4 + length x ≤ i) × (i < o + length u))
in_a_dump {x} {u} o q i =
    let n : length u ≡ 4 + (length x + length q.pad) = ap length q.joined ∙ simp (length-append, q.four) in
    (λ (j, h, e). (omega (arith, e), omega (arith, e, h, n)), λ (h, k). (i - (o + 4 + length x), omega (arith, h, k, n), omega (arith, h)))

-- and by its span
behind_it : {x u : List ℕ} (o : ℕ) (q : Opaque x u) (i : ℕ) → InPad o q i ↔ Behind (record { start = o + 4; count = length x }) i
behind_it {x} o q i = (
  λ (j, h, e). (omega (arith, e), omega (arith, e, h, q.filled)),
  λ (h, k). (i - (o + 4 + length x), omega (arith, h, k, q.filled), omega (arith, h)),
)

item_pads : (a : Item) (o : ℕ) (b : List ℕ) (v : Value) (t : IsItem a o b v) (i : ℕ) → ItemPad a o b v t i ↔ ItemPadRead a v i
unfolding IsItem
item_pads word o b v t i = same
item_pads (tested ok code) o b v t i = same
item_pads long o b v t i = same
item_pads int o b v t i = same
item_pads (block w) o b v t i = same
item_pads opaque o b v (x, q, e) i = subst (λ (z : Value). InPad o q i ↔ BehindValue z i) (sym e) (behind_it o q i)
item_pads string o b v (x, q, y, e) i = subst (λ (z : Value). InPad o q i ↔ BehindValue z i) (sym e) (behind_it o q i)

-- the pads of some bytes that stand in s are those that are read there
abbrev Agree : Script → Type 0
Agree sc = (o : ℕ) (b : List ℕ) (f : Found) (n : ℕ) (t : Is sc o b f n) (s rest : List ℕ) (k : ℕ) → Stands s o b rest → (i : ℕ) → Pad sc o b f n t i ↔ PadRead sc s (place o k) i

many_agree : (sc : Script) → Agree sc → (c o : ℕ) (b : List ℕ) (f : Found) (n : ℕ) (t : Many c (Is sc) o b f n) (s rest : List ℕ) (k : ℕ) → Stands s o b rest → (i : ℕ)
    → ManyPad c (Is sc) (Pad sc) o b f n t i ↔ TimesPadRead c (follow sc) (λ z. PadRead sc s z) s (place o k) i
unfolding Many ManyPad TimesPadRead
many_agree sc each zero o b f n t s rest k h i = same
many_agree sc each (suc c) o b f n (x, y, g, g', m, l, e, eg, en, t, u) s rest k h i =
    either (each o x g m t s (y ++ rest) k (front x y e h) i)
    (trans (many_agree sc each c (o + length x) y g' l u s rest (k + m) (back x y e h) i)
    (given_got (λ a q. TimesPadRead c (follow sc) (λ z. PadRead sc s z) s q i) (complete sc s x (y ++ rest) g o k m t (front x y e h))))

pub agree : (sc : Script) → Agree sc
unfolding Is Pad PadRead inside
agree (give a) o b f n t s rest k h i = same
agree (refuse code) o b f n t s rest k h i = absurd t
agree (here j) o b f n t s rest k h i = agree (j o) o b f n t s rest k h i
agree (item a j) o b f n (x, y, v, m, e, en, t, u) s rest k h i =
    trans (either (item_pads a o x v t i) (agree (j v) (o + length x) y f m u s rest (k + 1) (back x y e h) i))
    (given_got (λ v q. ItemPadRead a v i ⊎ PadRead (j v) s q i) (complete_item a o k t (front x y e h)))
agree (within body j) o b f n (u, y, x, inner, over, a, m, l, e, en, q, ex, t, v) s rest k h i =
    let hu = front u y e h in
    let hx = (payload_there o q hu).1 in
    let span : Span = record { start = o + 4; count = length x } in
    let hi = front inner over ex (held (o + 4) hx) in
    let d : inside span (follow body) s (place (o + length u) (k + 1)) ≡ got a (place (o + length u) (k + 1 + m)) = rw (complete body (take (o + 4 + length x) s) inner (over ++ []) a (o + 4) (k + 1) m t hi) in
    trans
    (either (behind_it o q i)
    (either (agree body (o + 4) inner a m t (take (o + 4 + length x) s) (over ++ []) (k + 1) hi i)
    (trans (agree (j span a) (o + length u) y f l v s rest (k + 1 + m) (back u y e h) i) (given_got (λ a z. PadRead (j span a) s z i) d))))
    (given_got (λ x z. Behind x i ⊎ (PadRead body (held_to x s) (record { at = x.start; steps = z.steps }) i ⊎ Given (inside x (follow body) s z) (λ a e. PadRead (j x a) s e i))) (opaque_there o k q hu))
agree (repeat c body j) o b f n (x, y, a, m, l, e, en, t, v) s rest k h i =
    either (many_agree body (agree body) c o x a m t s (y ++ rest) k (front x y e h) i)
    (trans (agree (j a) (o + length x) y f l v s rest (k + m) (back x y e h) i)
    (given_got (λ a q. PadRead (j a) s q i) (complete_many (follow body) (Is body) (complete body) c s x (y ++ rest) a o k m t (front x y e h))))
