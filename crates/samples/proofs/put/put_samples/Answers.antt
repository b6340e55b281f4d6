use Rattle.store.proofs.Loops.{back_done, back_first, back_next}
use Rattle.samples.proofs.put.put_samples.Goals as goal

pub put_sample-w-requires : goal.put_sample-w-requires
put_sample-w-requires c = back_first c.loop.invariant c.loop.auto.counter c.loop-test.true

pub loop-preserved : goal.loop-preserved
loop-preserved c = back_next c.loop.invariant c.loop.auto.counter c.loop-test.true c.put_sample-w.ensures

pub returns : goal.returns
returns c = back_done c.loop.invariant c.loop.auto.counter c.loop-test.false
