use Rattle.flows.proofs.Ahead.{ahead_turn}
use Rattle.flows.proofs.scan_ahead.flow_records.Goals as goal

pub loop-i-preserved : goal.loop-i-preserved
loop-i-preserved c = ahead_turn _ _ _ c.in-Some.ensures _ _ _ _ c.loop-i-test.true c.loop-i.invariant
