use Rattle.std.proofs.Common.{ap}
use Rattle.xdr.specs.Shown.{code_of}
use Rattle.layout.specs.Shown.{mode_of}
use Rattle.datagram.proofs.Running.{other_code, scanned_ends, scanned_less, scanned_on, scanned_over, scanned_stops, scanned_turn}
use Rattle.datagram.proofs.run.scan_run.Goals as goal

pub loop-cur-smaller : goal.loop-cur-smaller
loop-cur-smaller c = scanned_less (mode_of c.args.mode) _ _ _ c.in-Ok.ensures c.loop-cur.invariant.0 c.loop-cur-test.true

pub loop-cur-preserved : goal.loop-cur-preserved
loop-cur-preserved c = (
  scanned_on (mode_of c.args.mode) _ _ _ c.in-Ok.ensures c.loop-cur.invariant.0,
  scanned_turn (mode_of c.args.mode) _ _ _ c.in-Ok.ensures c.loop-cur.invariant.1 c.loop-cur-test.true,
)

pub returns-in-Cut : goal.returns-in-Cut
returns-in-Cut c = scanned_ends (mode_of c.args.mode) _ _ _ c.in-Err.ensures c.loop-cur.invariant.1 c.loop-cur-test.true (ap code_of c.in-Cut.is)

pub returns-in_default : goal.returns-in_default
returns-in_default c = scanned_stops (mode_of c.args.mode) _ _ _ c.in-Err.ensures c.loop-cur.invariant.1 c.loop-cur-test.true (other_code _ c.in_default.not-Cut)

pub returns : goal.returns
returns c = scanned_over (mode_of c.args.mode) _ _ _ c.loop-cur.invariant.1 c.loop-cur-test.false
