-- The blocks that are left end where all do.
use Rattle.std.proofs.Common.{length, drop, ◌-◌, ◌≡◌, ◌+◌, ◌*◌, ◌/◌, ◌≤◌}
use Rattle.reading.proofs.Utf8.{plain}
use Rattle.strings.proofs.skip.past_blocks.Given as goal

abbrev pub invariant-loop-i : goal.invariant-loop-i
invariant-loop-i g l = (l.i ≤ length l.s) × (l.i + plain (drop l.i l.s) / g.row.N * g.row.N ≡ l.fn.at + plain (drop l.fn.at l.s) / g.row.N * g.row.N)

abbrev pub decreases-loop-i : goal.decreases-loop-i
decreases-loop-i g l = length l.s - l.i
