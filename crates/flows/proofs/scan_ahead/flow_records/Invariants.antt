use Rattle.std.proofs.Common.{◌+◌, ◌-◌}
use Rattle.flows.specs.Passing.{AheadOf}
use Rattle.flows.proofs.scan_ahead.flow_records.Given as goal

abbrev pub invariant-loop-i : goal.invariant-loop-i
invariant-loop-i l = AheadOf l.s l.fn.c l.n l.count (record { cursor = l.cursor; rest = l.n - l.i; count = l.count + l.i })
