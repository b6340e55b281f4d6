-- Ranges of which no flow record is deeper than so much. Definitions only. Assumes nothing.
use Rattle.std.specs.Prelude.{ℕ, ◌≤◌, ◌≡◌}
use Rattle.reading.specs.Script.{Range, Forest, bare, tree}

-- no flow record (kind 2) of these ranges is deeper than m
pub data Shallow (m : ℕ) : Forest → Type 0 where
  none : Shallow m bare
  also : {r : Range} {inner after : Forest} → (r.kind ≡ 2 → r.depth ≤ m) → Shallow m inner → Shallow m after → Shallow m (tree r inner after)
