-- Where a pass over frames has come to. Assumes nothing.
use Rattle.std.specs.Prelude.{ℕ, ◌≤◌, List, length}
use Rattle.reading.specs.Sizes.{longest_input}
use Rattle.xdr.specs.declared.Cursor.{Cursor}

-- a cursor inside an input that is not too long, with no more items and no more descriptors than bytes before it
pub record Scan (s : List ℕ) (c : Cursor) (k : ℕ) : Type 0 where
  pub inside : c.at ≤ length s
  pub counted : c.steps ≤ c.at
  pub few : k ≤ c.at
  pub short : length s ≤ longest_input
