-- What is left goes bad where the whole does.
use Rattle.std.proofs.Common.{length, ◌-◌, ◌≡◌, ◌≤◌}
use Rattle.reading.specs.Utf8.{well_formed_of}
use Rattle.reading.proofs.Utf8Longest.{ends}
use Rattle.strings.proofs.well_formed.Given as goal

abbrev pub invariant-loop-at : goal.invariant-loop-at
invariant-loop-at l = (l.at ≤ length l.s) × (ends l.s l.at ≡ well_formed_of l.s)

abbrev pub decreases-loop-at : goal.decreases-loop-at
decreases-loop-at l = length l.s - l.at
