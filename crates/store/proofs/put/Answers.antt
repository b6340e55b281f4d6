-- The places at + 1, at + 2 and so on, as successors. Assumes nothing.
use native.Mathlib.Numerals.{towards_suc}
use Rattle.reading.proofs.Stored.{write}
use Rattle.store.proofs.put.Goals as goal

pub returns : goal.returns
unfolding write
returns c = simp towards_suc
