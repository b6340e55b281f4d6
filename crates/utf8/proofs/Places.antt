-- UTF-8 at a place of the bytes, as code has it: past a run of UTF8-1, past a sequence, and where there is none. Assumes nothing.
use Prim.Native.Nat.{ℕ, zero, suc, ◌+◌, ◌-◌, ◌≤◌, ◌<◌}
use mathlib.Core.Path.{◌≡◌, refl, sym, ◌∙◌, ap}
use mathlib.Core.Bool.{Bool, true, false, cond}
use mathlib.Core.List.{List, [], ◌∷◌}
use native.Mathlib.Omega.{arith}
use native.Mathlib.Numerals.{add-one}
use borrow.Author.Tests.{leb-true, leb-false, le-leb, lt-leb}
use lib.ListN.{length, drop, get_or, length-drop, drop_of_length-le}
use lib.Seq.{drop-cons, drop-drop, get_or-drop}
use lib.Dec.{leb, leb-suc-suc, leb-suc-zero}
use Rattle.reading.specs.Utf8.{◌&◌, utf8_1, utf8_2, utf8_3, utf8_4, well_formed_of}
use Rattle.reading.proofs.Utf8.{pick, plain, width, both, width_2, width_3, width_4, width_length}
use Rattle.reading.proofs.Utf8Longest.{ends, none_ends, sequence_on}

-- a run lies within the bytes
plain_length : (t : List ℕ) → plain t ≤ length t
unfolding plain
plain_length [] = omega arith
plain_length (a ∷ s) = go (utf8_1 a) (plain_length s)
  where
    go : (x : Bool) → plain s ≤ length s → cond x (suc (plain s)) 0 ≤ suc (length s)
    go true h = omega arith
    go false h = omega arith

-- the run of UTF8-1 in front: it can be passed, and so can a part of it
past_plain : (i : ℕ) (t : List ℕ) → i ≤ plain t → ends t i ≡ well_formed_of t
unfolding plain width
past_plain zero t h = omega arith
past_plain (suc i) [] h = absurd (omega arith)
past_plain (suc i) (a ∷ s) h = go (utf8_1 a) refl h (past_plain i s)
  where
    go : (x : Bool) → utf8_1 a ≡ x → suc i ≤ cond x (suc (plain s)) 0 → (i ≤ plain s → ends s i ≡ well_formed_of s) → ends (a ∷ s) (suc i) ≡ well_formed_of (a ∷ s)
    go true e h f = let g : ends (a ∷ s) 1 ≡ ends (a ∷ s) 0 = sequence_on (a ∷ s) 0 1 1 (rw e) (omega arith) (omega arith) in omega (arith, f (omega arith), g)
    go false e h f = absurd (omega arith)

pub plain_drop : (i : ℕ) (t : List ℕ) → i ≤ plain t → plain t ≡ i + plain (drop i t)
unfolding plain
plain_drop zero t h = omega arith
plain_drop (suc i) [] h = absurd (omega arith)
plain_drop (suc i) (a ∷ s) h = go (utf8_1 a) h (plain_drop i s)
  where
    go : (x : Bool) → suc i ≤ cond x (suc (plain s)) 0 → (i ≤ plain s → plain s ≡ i + plain (drop i s)) → cond x (suc (plain s)) 0 ≡ suc i + plain (drop i s)
    go true h f = omega (arith, f (omega arith))
    go false h f = absurd (omega arith)

-- one byte more is in the run where the run reaches it and it is UTF8-1
plain_more : (i : ℕ) (t : List ℕ) → i < length t → (leb i (plain t) & utf8_1 (get_or t i 0)) ≡ leb (suc i) (plain t)
unfolding plain
plain_more i [] h = absurd (omega arith)
plain_more zero (a ∷ s) h = go (utf8_1 a)
  where
    go : (x : Bool) → (leb 0 (cond x (suc (plain s)) 0) & x) ≡ leb 1 (cond x (suc (plain s)) 0)
    go true = simp (le-leb 0 (suc (plain s)) (omega arith), le-leb 1 (suc (plain s)) (omega arith))
    go false = refl
plain_more (suc i) (a ∷ s) h = go (utf8_1 a) (plain_more i s (omega arith))
  where
    go : (x : Bool) → (leb i (plain s) & utf8_1 (get_or s i 0)) ≡ leb (suc i) (plain s)
        → (leb (suc i) (cond x (suc (plain s)) 0) & utf8_1 (get_or s i 0)) ≡ leb (suc (suc i)) (cond x (suc (plain s)) 0)
    go true e = simp leb-suc-suc e
    go false e = simp leb-suc-zero

-- the same at a place of the bytes, as code has it
module _ (s : List ℕ) (at : ℕ) where
  pub plain_room : plain (drop at s) ≤ length s - at
  plain_room = rw (← length-drop at s) (plain_length (drop at s))

  pub width_room : width (drop at s) ≤ length s - at
  width_room = rw (← length-drop at s) (width_length (drop at s))

  pub plain_past : (i : ℕ) → i ≤ plain (drop at s) → plain (drop at s) ≡ i + plain (drop (at + i) s)
  plain_past i h = rw (← drop-drop i at s) (plain_drop i (drop at s) h)

  pub plain_on : (k : ℕ) {i r : ℕ} → r ≡ i + plain (drop i s) → i ≡ at + k → k ≤ plain (drop at s) → r ≡ at + plain (drop at s)
  plain_on k e f h = let g = ap (λ (i : ℕ). plain (drop i s)) f in omega (arith, plain_past k h)

  pub plain_byte : (i : ℕ) {x y : Bool} → x ≡ leb i (plain (drop at s)) → y ≡ utf8_1 (get_or s (at + i) 0) → at + i < length s
      → (x & y) ≡ leb (i + 1) (plain (drop at s))
  plain_byte i e f h =
      both e f ∙ rw (add-one i, ← get_or-drop at s i 0) (plain_more i (drop at s) (rw (length-drop at s) (omega arith)))

  pub plain_here : {x : Bool} → x ≡ utf8_1 (get_or s at 0) → at < length s → plain (drop at s) ≡ cond x (suc (plain (drop (at + 1) s))) 0
  unfolding plain
  plain_here e h = ap plain (drop-cons s at 0 h) ∙ rw (← e, add-one at)

  -- the places past a run and past a sequence
  pub run_room : {r : ℕ} → r ≡ at + plain (drop at s) → at ≤ length s → r ≤ length s
  run_room e h = omega (arith, plain_room)

  -- where the bytes end, and where another byte stands, there is none
  pub run_ends : length s ≤ at → at ≡ at + plain (drop at s)
  unfolding plain
  run_ends h = rw (drop_of_length-le s h) (omega arith)

  pub run_none : {x : Bool} → x ≡ utf8_1 (get_or s at 0) → x ≡ false → at < length s → at ≡ at + plain (drop at s)
  run_none e t h = omega (arith, plain_here (sym t ∙ e) h)

  pub sequence_room : {n : ℕ} → n ≡ width (drop at s) → at ≤ length s → at + n ≤ length s
  sequence_room e h = omega (arith, width_room)

-- ways through a chain of tests
module _ {A : Type 0} (u v : A) {r : A} where
  pub taken : {x y : Bool} → x ≡ y → x ≡ true → r ≡ u → r ≡ pick y u v
  unfolding pick
  taken e t h = rw (sym e ∙ t) h

  pub left : {x y : Bool} → x ≡ y → x ≡ false → r ≡ v → r ≡ pick y u v
  unfolding pick
  left e t h = rw (sym e ∙ t) h

  pub room : (m n : ℕ) → m ≤ n → r ≡ u → r ≡ pick (leb m n) u v
  unfolding pick
  room m n t h = rw (le-leb m n t) h

  pub short : (m n : ℕ) → n < m → r ≡ v → r ≡ pick (leb m n) u v
  unfolding pick
  short m n t h = rw (lt-leb m n t) h

-- what waits for one byte more, at a place: the byte is there, or there is nothing
opened : (f : List ℕ → ℕ) → f [] ≡ 0 → (s : List ℕ) (at i : ℕ) → f (drop (at + i) s) ≡ cond (leb (i + 1) (length s - at)) (f (get_or s (at + i) 0 ∷ drop (at + (i + 1)) s)) 0
opened f e s at i = go (leb (i + 1) (length s - at)) refl
  where
    go : (x : Bool) → leb (i + 1) (length s - at) ≡ x → f (drop (at + i) s) ≡ cond x (f (get_or s (at + i) 0 ∷ drop (at + (i + 1)) s)) 0
    go true t = let h : at + i < length s = omega (arith, leb-true) in let m : suc (at + i) ≡ at + (i + 1) = omega arith in rw (drop-cons s (at + i) 0 h, m)
    go false t = let h : length s ≤ at + i = omega (arith, leb-false) in rw (drop_of_length-le s h) e

-- the width by its tests, in the table's order
pub width_at : (s : List ℕ) (at : ℕ) {r : ℕ} → at < length s
    → r
    ≡ pick (utf8_1 (get_or s at 0)) 1
    (pick (leb 2 (length s - at))
    (pick (utf8_2 (get_or s at 0) (get_or s (at + 1) 0)) 2
    (pick (leb 3 (length s - at))
    (pick (utf8_3 (get_or s at 0) (get_or s (at + 1) 0) (get_or s (at + 2) 0)) 3
    (pick (leb 4 (length s - at)) (pick (utf8_4 (get_or s at 0) (get_or s (at + 1) 0) (get_or s (at + 2) 0) (get_or s (at + 3) 0)) 4 0) 0))
    0))
    0)
    → r ≡ width (drop at s)
unfolding width pick
width_at s at h e =
    let m : suc at ≡ at + 1 = omega arith in
    e ∙ sym (rw (
      drop-cons s at 0 h,
      m,
      opened (width_2 (get_or s at 0)) refl s at 1,
      opened (width_3 (get_or s at 0) (get_or s (at + 1) 0)) refl s at 2,
      opened (width_4 (get_or s at 0) (get_or s (at + 1) 0) (get_or s (at + 2) 0)) refl s at 3,
    ))

-- past a run the text goes bad where it did
pub run_on : (s : List ℕ) (at : ℕ) {r : ℕ} → r ≡ at + plain (drop at s) → ends s r ≡ ends s at
run_on s at e = rw (e, ← drop-drop (plain (drop at s)) at s) (omega (arith, past_plain (plain (drop at s)) (drop at s) (omega arith)))

none_left : width [] ≡ 0
unfolding width
none_left = refl

-- at the end no character begins
pub width_none : (s : List ℕ) (at : ℕ) → length s ≤ at → 0 ≡ width (drop at s)
width_none s at h = rw (drop_of_length-le s h) (sym none_left)

-- what is left goes bad where the whole does: at the end, past a sequence, and where there is none
module _ (s : List ℕ) (at : ℕ) (same : ends s at ≡ well_formed_of s) where
  pub all_passed : length s ≤ at → at ≡ well_formed_of s
  all_passed h = let e : ends s at ≡ at = rw (drop_of_length-le s h) (omega (arith, none_ends [] none_left)) in sym e ∙ same

  pub sequence_passed : {n : ℕ} → n ≡ width (drop at s) → (n ≡ 0 → ⊥) → ends s (at + n) ≡ well_formed_of s
  sequence_passed {n} e h = sequence_on s at n (at + n) (sym e) (omega arith) refl ∙ same

  pub none_there : {n : ℕ} → n ≡ width (drop at s) → n ≡ 0 → at ≡ well_formed_of s
  none_there e z = omega (arith, none_ends (drop at s) (sym e ∙ z), same)
