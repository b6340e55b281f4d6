-- A character begins at the place, and to go on from it is the same as from the first.
use Rattle.std.proofs.Common.{false, length, get_or, ◌-◌, ◌≡◌, ◌≤◌}
use Rattle.reading.specs.Utf8.{tail}
use Rattle.strings.specs.Skips.{Skips}
use Rattle.strings.proofs.skip.past_windows.Given as goal

abbrev pub invariant-loop-i : goal.invariant-loop-i
invariant-loop-i g l = (3 ≤ l.i) × (tail (get_or l.s l.i 0) ≡ false) × Skips l.s l.fn.at l.i

abbrev pub decreases-loop-i : goal.decreases-loop-i
decreases-loop-i g l = length l.s - l.i
