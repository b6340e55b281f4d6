-- The table as code has it: nine tests one after another, in which a byte behind the last is 0. Assumes nothing.
use Prim.Native.Nat.{ℕ, ◌+◌, ◌-◌, ◌≤◌, ◌<◌}
use mathlib.Core.Path.{◌≡◌, refl, sym, ap, ◌∙◌}
use mathlib.Core.Bool.{Bool, true, false}
use mathlib.Core.List.{List}
use native.Mathlib.Omega.{arith}
use borrow.Author.Tests.{leb-false}
use lib.Dec.{leb}
use lib.ListN.{length, drop, get_or, get_or-eq_default}
use Rattle.reading.specs.Utf8.{◌&◌, ◌or◌, among, tail, utf8_1, utf8_2, utf8_3, utf8_4}
use Rattle.reading.proofs.Utf8.{pick, width, among_below, both, all_three}
use Rattle.utf8.proofs.Places.{width_at}

no_tail : tail 0 ≡ false
no_tail = among_below 0x80 0xbf 0 (omega arith)

and_false : (x : Bool) → (x & false) ≡ false
and_false true = refl
and_false false = refl

-- where the last byte of a row is not there, the row does not fit
cut_2 : (a : ℕ) → utf8_2 a 0 ≡ false
cut_2 a = simp (no_tail, and_false)

cut_3 : (a b : ℕ) → utf8_3 a b 0 ≡ false
cut_3 a b = simp (no_tail, and_false)

cut_4 : (a b c : ℕ) → utf8_4 a b c 0 ≡ false
cut_4 a b c = simp (no_tail, and_false)

passed : {x : Bool} (u v : ℕ) {w : ℕ} → x ≡ false → v ≡ w → pick x u v ≡ w
unfolding pick
passed u v e f = rw e f

-- four tests at once, as code has them
pub all_four : {x y z o u v w p : Bool} → x ≡ u → y ≡ v → z ≡ w → o ≡ p → (((x & y) & z) & o) ≡ (u & v & w & p)
all_four {u = u} {v} {w} {p} e f g h = both (all_three e f g) h ∙ assoc u v w p
  where
    assoc : (u v w p : Bool) → ((u & v & w) & p) ≡ (u & v & w & p)
    assoc true true w p = refl
    assoc true false w p = refl
    assoc false v w p = refl

-- rows of one width, one after another
pick_or : (x y : Bool) (u v : ℕ) → pick (x or y) u v ≡ pick x u (pick y u v)
unfolding pick
pick_or true y u v = refl
pick_or false y u v = refl

-- a test for room that the rows make by themselves
roomy : (m n x : ℕ) → (n < m → x ≡ 0) → pick (leb m n) x 0 ≡ x
unfolding pick
roomy m n x f = go (leb m n) refl
  where
    go : (y : Bool) → leb m n ≡ y → pick y x 0 ≡ x
    go true e = refl
    go false e = sym (f (leb-false m n e))

abbrev rows_3 : ℕ → ℕ → ℕ → ℕ → ℕ
rows_3 a b c n =
    pick (among 0xe0 0xe0 a & among 0xa0 0xbf b & tail c) 3
    (pick (among 0xe1 0xec a & tail b & tail c) 3
    (pick (among 0xed 0xed a & among 0x80 0x9f b & tail c) 3
    (pick (among 0xee 0xef a & tail b & tail c) 3 n)))

abbrev rows_4 : ℕ → ℕ → ℕ → ℕ → ℕ
rows_4 a b c d =
    pick (among 0xf0 0xf0 a & among 0x90 0xbf b & tail c & tail d) 4
    (pick (among 0xf1 0xf3 a & tail b & tail c & tail d) 4
    (pick (among 0xf4 0xf4 a & among 0x80 0x8f b & tail c & tail d) 4 0))

-- the nine rows
abbrev by_rows : ℕ → ℕ → ℕ → ℕ → ℕ
by_rows a b c d = pick (utf8_1 a) 1 (pick (utf8_2 a b) 2 (rows_3 a b c (rows_4 a b c d)))

by_threes : (a b c n : ℕ) → pick (utf8_3 a b c) 3 n ≡ rows_3 a b c n
by_threes a b c n = rw (pick_or, pick_or, pick_or)

by_fours : (a b c d : ℕ) → pick (utf8_4 a b c d) 4 0 ≡ rows_4 a b c d
by_fours a b c d = rw (pick_or, pick_or)

-- the width by the rows, in the table's order
module _ (s : List ℕ) (at : ℕ) (h : at < length s) where
  pub gone : (i : ℕ) → length s - at ≤ i → 0 ≡ get_or s (at + i) 0
  gone i l = sym (get_or-eq_default s 0 (omega arith))

  by_bytes : {r : ℕ} → r ≡ by_rows (get_or s at 0) (get_or s (at + 1) 0) (get_or s (at + 2) 0) (get_or s (at + 3) 0) → r ≡ width (drop at s)
  by_bytes e =
      let n = length s - at in
      let a = get_or s at 0 in
      let b = get_or s (at + 1) 0 in
      let c = get_or s (at + 2) 0 in
      let d = get_or s (at + 3) 0 in
      let x4 : ℕ = pick (utf8_4 a b c d) 4 0 in
      let x3 : ℕ = pick (utf8_3 a b c) 3 x4 in
      let x2 : ℕ = pick (utf8_2 a b) 2 x3 in
      let z4 : n < 4 → x4 ≡ 0 = λ l. passed 4 0 (ap (utf8_4 a b c) (sym (gone 3 (omega arith))) ∙ cut_4 a b c) refl in
      let z3 : n < 3 → x3 ≡ 0 = λ l. passed 3 x4 (ap (utf8_3 a b) (sym (gone 2 (omega arith))) ∙ cut_3 a b) (z4 (omega arith)) in
      let z2 : n < 2 → x2 ≡ 0 = λ l. passed 2 x3 (ap (utf8_2 a) (sym (gone 1 (omega arith))) ∙ cut_2 a) (z3 (omega arith)) in
      let k3 = ap (λ (y : ℕ). pick (leb 3 n) (pick (utf8_3 a b c) 3 y) 0) (roomy 4 n x4 z4) ∙ roomy 3 n x3 z3 in
      let k2 = ap (λ (y : ℕ). pick (leb 2 n) (pick (utf8_2 a b) 2 y) 0) k3 ∙ roomy 2 n x2 z2 in
      let f : x3 ≡ rows_3 a b c (rows_4 a b c d) = by_threes a b c x4 ∙ ap (rows_3 a b c) (by_fours a b c d) in
      width_at s at h (e ∙ sym (ap (λ (y : ℕ). pick (utf8_1 a) 1 y) (k2 ∙ ap (λ (y : ℕ). pick (utf8_2 a b) 2 y) f)))

-- the same by what code has read: its first byte, which is there, and those behind it
pub width_rows : (s : List ℕ) (at : ℕ) {a b c d : ℕ} → (at < length s) × ((x : ℕ) → a ≡ get_or s at x) → b ≡ get_or s (at + 1) 0 → c ≡ get_or s (at + 2) 0 → d ≡ get_or s (at + 3) 0
    → {r : ℕ} → r ≡ by_rows a b c d → r ≡ width (drop at s)
width_rows s at h p q o e = by_bytes s at h.0 (rw (h.1 0, p, q, o) at e)
