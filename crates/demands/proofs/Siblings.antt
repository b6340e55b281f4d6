-- Demand 3, of descriptors by their indices: of nested ranges, one lies inside its parent's with its pad, and of two with one parent the second's
-- first byte is at or after the end of the first's pad. By the forest that the descriptors are of; `Placed` says it of the store. Assumes nothing.
use Prim.Native.Nat.{ℕ, ◌+◌, ◌≤◌, ◌<◌}
use mathlib.Core.Path.{◌≡◌, refl, sym}
use native.Mathlib.Omega.{arith}
use Rattle.reading.specs.Script.{Range, Forest, tree}
use Rattle.reading.specs.Answer.{size}
use Rattle.demands.specs.Nested.{end, last, Level, top, inside, Nested, none, next, Row}
use Rattle.demands.proofs.Nested.{led, leads, forward}

-- in a forest whose first index is j and whose parent is p, the descriptor with index i is this one
pub data In : Forest → (j p i : ℕ) → Row → Type 0 where
  this : {r : Range} {inner after : Forest} {j p i : ℕ} → i ≡ j → In (tree r inner after) j p i (record { kind = r.kind; span = r.span; parent = p; first = r.first })
  within : {r : Range} {inner after : Forest} {j p i : ℕ} {x : Row} → In inner (j + 1) j i x → In (tree r inner after) j p i x
  behind : {r : Range} {inner after : Forest} {j p i : ℕ} {x : Row} → In after (j + 1 + size inner) p i x → In (tree r inner after) j p i x

-- its parent is p, or a descriptor before it
pub data Parent (p j i q : ℕ) : Type 0 where
  own : q ≡ p → Parent p j i q
  before : j ≤ q → q < i → Parent p j i q

pub record Parted (f : Forest) (j p i : ℕ) (x : Row) : Type 0 where
  pub first : j ≤ i
  pub last : i < j + size f
  pub parent : Parent p j i x.parent

pub parted : {f : Forest} {j p i : ℕ} {x : Row} → In f j p i x → Parted f j p i x
unfolding size
parted (this e) = record { first = omega arith; last = omega arith; parent = own refl }
parted {p = p} {i = i} {x = x} (within {j = j} m) = let h = parted m in record { first = omega arith; last = omega arith; parent = go h.first h.parent }
  where
    go : j + 1 ≤ i → Parent j (j + 1) i x.parent → Parent p j i x.parent
    go k (own e) = before (omega arith) (omega arith)
    go k (before u v) = before (omega arith) v
parted {p = p} {i = i} {x = x} (behind {inner = inner} {j = j} m) = let h = parted m in record { first = omega arith; last = omega arith; parent = go h.parent }
  where
    go : Parent p (j + 1 + size inner) i x.parent → Parent p j i x.parent
    go (own e) = own e
    go (before u v) = before (omega arith) v

-- ---- by the forest

pub in_bounds : {f : Forest} {v : Level} {j p i lo hi : ℕ} {x : Row} → Nested v lo hi f → In f j p i x → (lo ≤ x.first) × (x.first ≤ x.span.start) × (last x.span ≤ hi)
in_bounds (none h) m = elim m [ ]
in_bounds (next {v = v} {r = r} z h d i j) (this e) = (h, led v r d, forward j)
in_bounds (next {v = v} {r = r} z h d i j) (within m) = let b = in_bounds i m in let k = forward j in let l = leads v r d in (omega (arith, b.0, l.0), b.1, omega (arith, b.2))
in_bounds (next {v = v} {r = r} z h d i j) (behind m) = let b = in_bounds j m in let k = forward i in let l = leads v r d in (omega (arith, b.0, l.0), b.1, b.2)

-- p is none of the forest's own indices
pub data Outside (f : Forest) (j p : ℕ) : Type 0 where
  under : p < j → Outside f j p
  over : j + size f ≤ p → Outside f j p

own_outside : {f : Forest} {j p k : ℕ} {y : Row} → Outside f j p → In f j p k y → p ≡ k → ⊥
own_outside (under h) m e = let z = parted m in omega (arith, z.first)
own_outside (over h) m e = let z = parted m in omega (arith, z.last)

-- the parent of what is inside the first range of a forest
pub inner_parent : {f : Forest} {j i : ℕ} {x : Row} → In f (j + 1) j i x → (j ≤ x.parent) × (x.parent < j + 1 + size f)
inner_parent {f} {j} {i} {x} m = let z = parted m in go z.last z.parent
  where
    go : i < j + 1 + size f → Parent j (j + 1) i x.parent → (j ≤ x.parent) × (x.parent < j + 1 + size f)
    go l (own e) = (omega arith, omega arith)
    go l (before u v) = (omega arith, omega arith)

-- the parent of what is behind it
after_parent : {r : Range} {inner after : Forest} {j p i : ℕ} {x : Row} → Outside (tree r inner after) j p → In after (j + 1 + size inner) p i x → j ≤ x.parent → x.parent < j + 1 + size inner → ⊥
unfolding size
after_parent {r} {inner} {after} {j} {p} {i} {x} o m h k = go o (parted m).parent
  where
    go : Outside (tree r inner after) j p → Parent p (j + 1 + size inner) i x.parent → ⊥
    go (under a) (own e) = omega arith
    go (over a) (own e) = omega arith
    go o (before u v) = omega arith

after_outside : {r : Range} {inner after : Forest} {j p : ℕ} → Outside (tree r inner after) j p → Outside after (j + 1 + size inner) p
unfolding size
after_outside (under h) = under (omega arith)
after_outside (over h) = over (omega arith)

-- an index that is none of a forest's own is not that of what is inside its first range
not_inside : {r : Range} {inner after : Forest} {j p q : ℕ} → Outside (tree r inner after) j p → j ≤ q → q < j + 1 + size inner → p ≡ q → ⊥
unfolding size
not_inside (under h) u v e = omega arith
not_inside (over h) u v e = omega arith

-- what is inside a range is no datagram's; and at the top each is one's, and has p as its parent
pub inner_kind : {f : Forest} {j p i lo hi : ℕ} {x : Row} → Nested inside lo hi f → In f j p i x → 0 < x.kind
inner_kind (none h) m = elim m [ ]
inner_kind (next kd h d a b) (this e) = kd
inner_kind (next kd h d a b) (within m) = inner_kind a m
inner_kind (next kd h d a b) (behind m) = inner_kind b m

-- and begins a word before its range
pub inner_led : {f : Forest} {j p i lo hi : ℕ} {x : Row} → Nested inside lo hi f → In f j p i x → x.first + 4 ≤ x.span.start
inner_led (none h) m = elim m [ ]
inner_led (next kd h d a b) (this e) = d
inner_led (next kd h d a b) (within m) = inner_led a m
inner_led (next kd h d a b) (behind m) = inner_led b m

pub root_first : {f : Forest} {j p i lo hi : ℕ} {x : Row} → Nested top lo hi f → In f j p i x → x.kind ≡ 0 → x.first ≡ x.span.start
root_first (none h) m z = elim m [ ]
root_first (next kd h d a b) (this e) z = d
root_first (next kd h d a b) (within m) z = let k = inner_kind a m in absurd (omega arith)
root_first (next kd h d a b) (behind m) z = root_first b m z

pub root_parent : {f : Forest} {j p i lo hi : ℕ} {x : Row} → Nested top lo hi f → In f j p i x → x.kind ≡ 0 → x.parent ≡ p
root_parent (none h) m z = elim m [ ]
root_parent (next kd h d a b) (this e) z = refl
root_parent (next kd h d a b) (within m) z = let k = inner_kind a m in absurd (omega arith)
root_parent (next kd h d a b) (behind m) z = root_parent b m z

pub root_kind : {f : Forest} {j p i lo hi : ℕ} {x : Row} → Nested top lo hi f → Outside f j p → In f j p i x → x.parent ≡ p → x.kind ≡ 0
root_kind (none h) o m z = elim m [ ]
root_kind (next kd h d a b) o (this e) z = kd
root_kind (next kd h d a b) o (within m) z = let u = inner_parent m in absurd (not_inside o u.0 u.1 (sym z))
root_kind (next kd h d a b) o (behind m) z = root_kind b (after_outside o) m z

-- it is held by its parent: from its first byte on, which is that of a word before its range
pub record Held (x y : Row) : Type 0 where
  pub from : y.span.start ≤ x.first
  pub leads : x.first + 4 ≤ x.span.start
  pub to : last x.span ≤ end y.span

pub parent_holds : {f : Forest} {v : Level} {j p i k lo hi : ℕ} {x y : Row} → Nested v lo hi f → Outside f j p → In f j p i x → In f j p k y → x.parent ≡ k → Held x y
parent_holds (none h) o m n z = elim m [ ]
parent_holds (next kd h d a b) o (this e) m z = absurd (own_outside o m z)
parent_holds (next {v = v} {r = r} kd h d a b) o (within m) (this e) z = let u = in_bounds a m in let l = leads v r d in record { from = omega (arith, u.0, l.1); leads = inner_led a m; to = u.2 }
parent_holds (next kd h d a b) o (within m) (within n) z = parent_holds a (under (omega arith)) m n z
parent_holds (next kd h d a b) o (within m) (behind n) z = let u = inner_parent m in let v = parted n in absurd (omega (arith, u.1, v.first))
parent_holds (next kd h d a b) o (behind m) (this e) z = absurd (after_parent o m (omega arith) (omega arith))
parent_holds (next kd h d a b) o (behind m) (within n) z = let v = parted n in absurd (after_parent o m (omega (arith, v.first)) (omega (arith, v.last)))
parent_holds (next kd h d a b) o (behind m) (behind n) z = parent_holds b (after_outside o) m n z

pub siblings_apart : {f : Forest} {v : Level} {j p i k lo hi : ℕ} {x y : Row} → Nested v lo hi f → Outside f j p → In f j p i x → In f j p k y → i < k → x.parent ≡ y.parent → last x.span ≤ y.first
unfolding size
siblings_apart (none h) o m n l z = elim m [ ]
siblings_apart (next kd h d a b) o (this e) (this f) l z = absurd (omega arith)
siblings_apart (next kd h d a b) o (this e) (within m) l z = let u = inner_parent m in absurd (not_inside o u.0 u.1 z)
siblings_apart (next kd h d a b) o (this e) (behind m) l z = (in_bounds b m).0
siblings_apart (next kd h d a b) o (within m) (this e) l z = let v = parted m in absurd (omega (arith, v.first))
siblings_apart (next kd h d a b) o (within m) (within n) l z = siblings_apart a (under (omega arith)) m n l z
siblings_apart (next kd h d a b) o (within m) (behind n) l z = let u = in_bounds a m in let v = in_bounds b n in omega (arith, u.2, v.0)
siblings_apart (next kd h d a b) o (behind m) (this e) l z = let v = parted m in absurd (omega (arith, v.first))
siblings_apart (next kd h d a b) o (behind m) (within n) l z = let u = parted m in let v = parted n in absurd (omega (arith, u.first, v.last))
siblings_apart (next kd h d a b) o (behind m) (behind n) l z = siblings_apart b (after_outside o) m n l z
