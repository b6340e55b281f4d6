use Rattle.std.proofs.Common.{arith}
use Rattle.samples.proofs.Placed.{flat_done, flat_next, flat_then, flat_turn}
use Rattle.samples.proofs.put.put_sample_flows.Goals as goal

pub returns-then-flat-eq0 : goal.returns-then-flat-eq0
returns-then-flat-eq0 c = flat_done (flat_then c.loop-rest.invariant c.put_flat_records-flat.ensures.flat_of) (omega (arith, c.if-flat-eq0.true))

pub put_aggregation-w-requires-clause-ready : goal.put_aggregation-w-requires-clause-ready
put_aggregation-w-requires-clause-ready c = flat_next c.put_flat_records-flat.ensures.flat_of c.if-flat-eq0.false

pub loop-rest-preserved : goal.loop-rest-preserved
loop-rest-preserved c = flat_turn (flat_then c.loop-rest.invariant c.put_flat_records-flat.ensures.flat_of) c.if-flat-eq0.false c.put_aggregation-w.ensures

pub returns : goal.returns
returns c = flat_done c.loop-rest.invariant c.loop-rest-test.false
