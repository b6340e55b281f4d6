-- Ranges of which no flow record is deeper than so much: side by side, one inside another, and deeper still. Assumes nothing.
use Prim.Native.Nat.{ℕ, ◌≤◌}
use mathlib.Core.Path.{◌≡◌}
use native.Mathlib.Omega.{arith}
use Rattle.reading.specs.Script.{Range, Forest, bare, tree, ◌⊕◌}
use Rattle.demands.specs.Depths.{Shallow, none, also}

pub joined : {m : ℕ} {f g : Forest} → Shallow m f → Shallow m g → Shallow m (f ⊕ g)
joined none k = k
joined (also h i j) k = also h i (joined j k)

pub front : {m : ℕ} (f g : Forest) → Shallow m (f ⊕ g) → Shallow m f
front bare g k = none
front (tree r a b) g (also h i j) = also h i (front b g j)

pub back : {m : ℕ} (f g : Forest) → Shallow m (f ⊕ g) → Shallow m g
back bare g k = k
back (tree r a b) g (also h i j) = back b g j

pub inner_shallow : {m : ℕ} {r : Range} {inner after : Forest} → Shallow m (tree r inner after) → Shallow m inner
inner_shallow (also h i j) = i

pub own_depth : {m : ℕ} {r : Range} {inner after : Forest} → Shallow m (tree r inner after) → r.kind ≡ 2 → r.depth ≤ m
own_depth (also h i j) = h

-- what is no deeper than m is no deeper than more
pub deeper : {m : ℕ} {f : Forest} (n : ℕ) → m ≤ n → Shallow m f → Shallow n f
deeper n l none = none
deeper {m} n l (also {r = r} h i j) = also (λ e. go (h e)) (deeper n l i) (deeper n l j)
  where
    go : r.depth ≤ m → r.depth ≤ n
    go k = omega arith
