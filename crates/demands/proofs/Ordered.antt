-- Demand 3, of descriptors by their indices: they are in order of first byte, and depth first. By the forest that the descriptors are of; `Placed` says
-- it of the store. Assumes nothing.
use Prim.Native.Nat.{ℕ, ◌+◌, ◌≤◌, ◌<◌}
use native.Mathlib.Omega.{arith}
use Rattle.reading.specs.Script.{Forest, tree}
use Rattle.reading.specs.Answer.{size}
use Rattle.demands.specs.Nested.{last, Level, Nested, none, next, Row}
use Rattle.demands.proofs.Nested.{leads, forward}
use Rattle.demands.proofs.Siblings.{In, this, within, behind, parted, in_bounds, inner_parent, inner_kind, inner_led}

-- a first byte is at least a word before that of each descriptor behind
pub in_order : {f : Forest} {v : Level} {j p i k lo hi : ℕ} {x y : Row} → Nested v lo hi f → In f j p i x → In f j p k y → i < k → x.first + 4 ≤ y.first
unfolding size
in_order (none h) m n l = elim m [ ]
in_order (next kd h d a b) (this e) (this f) l = absurd (omega arith)
in_order (next {v = v} {r = r} kd h d a b) (this e) (within m) l = let u = in_bounds a m in let z = leads v r d in omega (arith, u.0, z.0)
in_order (next {v = v} {r = r} kd h d a b) (this e) (behind m) l = let u = in_bounds b m in let z = leads v r d in let c = forward a in omega (arith, u.0, z.0)
in_order (next kd h d a b) (within m) (this e) l = let v = parted m in absurd (omega (arith, v.first))
in_order (next kd h d a b) (within m) (within n) l = in_order a m n l
in_order (next kd h d a b) (within m) (behind n) l = let u = in_bounds a m in let v = in_bounds b n in let z = inner_led a m in omega (arith, u.2, v.0, z)
in_order (next kd h d a b) (behind m) (this e) l = let v = parted m in absurd (omega (arith, v.first))
in_order (next kd h d a b) (behind m) (within n) l = let u = parted m in let v = parted n in absurd (omega (arith, u.first, v.last))
in_order (next kd h d a b) (behind m) (behind n) l = in_order b m n l

-- the m descriptors behind the one with index i are those inside it: each has a parent, which is it or one of them, and any later begins at or after the
-- end of its pad
pub record Block (f : Forest) (j p i : ℕ) (x : Row) : Type 0 where
  pub count : ℕ
  pub fits : i + count < j + size f
  pub inner : {k : ℕ} {y : Row} → In f j p k y → i < k → k ≤ i + count → (0 < y.kind) × (i ≤ y.parent)
  pub outer : {k : ℕ} {y : Row} → In f j p k y → i + count < k → last x.span ≤ y.first

pub block : {f : Forest} {v : Level} {j p i lo hi : ℕ} {x : Row} → Nested v lo hi f → In f j p i x → Block f j p i x
unfolding size
block (none h) m = elim m [ ]
block {p = p} (next {r = r} {inner} {after} kd h d a b) (this {j = j} {i = i} e) =
    record { count = size inner; fits = omega arith; inner = λ m. within_it m; outer = λ m. behind_it m }
  where
    within_it : {k : ℕ} {y : Row} → In (tree r inner after) j p k y → i < k → k ≤ i + size inner → (0 < y.kind) × (i ≤ y.parent)
    within_it (this f) l q = absurd (omega arith)
    within_it (within m) l q = let u = inner_parent m in (inner_kind a m, omega (arith, u.0))
    within_it (behind m) l q = let u = parted m in absurd (omega (arith, u.first))

    behind_it : {k : ℕ} {y : Row} → In (tree r inner after) j p k y → i + size inner < k → last r.span ≤ y.first
    behind_it (this f) l = absurd (omega arith)
    behind_it (within m) l = let u = parted m in absurd (omega (arith, u.last))
    behind_it (behind m) l = (in_bounds b m).0
block {p = p} {x = x} (next {r = r} {inner} {after} kd h d a b) (within {j = j} {i = i} n) =
    let c = block a n in
    record { count = c.count; fits = omega (arith, c.fits); inner = λ m. within_it c m; outer = λ m. behind_it c m }
  where
    within_it : (c : Block inner (j + 1) j i x) {k : ℕ} {y : Row} → In (tree r inner after) j p k y → i < k → k ≤ i + c.count → (0 < y.kind) × (i ≤ y.parent)
    within_it c (this f) l q = let u = parted n in absurd (omega (arith, u.first))
    within_it c (within m) l q = c.inner m l q
    within_it c (behind m) l q = let u = parted m in absurd (omega (arith, u.first, c.fits))

    behind_it : (c : Block inner (j + 1) j i x) {k : ℕ} {y : Row} → In (tree r inner after) j p k y → i + c.count < k → last x.span ≤ y.first
    behind_it c (this f) l = let u = parted n in absurd (omega (arith, u.first))
    behind_it c (within m) l = c.outer m l
    behind_it c (behind m) l = let u = in_bounds a n in let v = in_bounds b m in omega (arith, u.2, v.0)
block {p = p} {x = x} (next {r = r} {inner} {after} kd h d a b) (behind {j = j} {i = i} n) =
    let c = block b n in
    record { count = c.count; fits = omega (arith, c.fits); inner = λ m. within_it c m; outer = λ m. behind_it c m }
  where
    within_it : (c : Block after (j + 1 + size inner) p i x) {k : ℕ} {y : Row} → In (tree r inner after) j p k y → i < k → k ≤ i + c.count → (0 < y.kind) × (i ≤ y.parent)
    within_it c (this f) l q = let u = parted n in absurd (omega (arith, u.first))
    within_it c (within m) l q = let u = parted n in let v = parted m in absurd (omega (arith, u.first, v.last))
    within_it c (behind m) l q = c.inner m l q

    behind_it : (c : Block after (j + 1 + size inner) p i x) {k : ℕ} {y : Row} → In (tree r inner after) j p k y → i + c.count < k → last x.span ≤ y.first
    behind_it c (this f) l = let u = parted n in absurd (omega (arith, u.first))
    behind_it c (within m) l = let u = parted n in let v = parted m in absurd (omega (arith, u.first, v.last))
    behind_it c (behind m) l = c.outer m l
