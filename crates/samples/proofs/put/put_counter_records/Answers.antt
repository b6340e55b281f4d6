use Rattle.store.proofs.Loops.{back_done, back_first, back_next}
use Rattle.samples.proofs.Placed.{counter_here, counter_placed}
use Rattle.samples.proofs.put.put_counter_records.Goals as goal

pub put_frame-w-requires : goal.put_frame-w-requires
put_frame-w-requires c = counter_here _ _ _ _ (back_first c.loop.invariant c.loop.auto.counter c.loop-test.true)

pub loop-preserved : goal.loop-preserved
loop-preserved c =
    let here = back_first c.loop.invariant c.loop.auto.counter c.loop-test.true in
    back_next c.loop.invariant c.loop.auto.counter c.loop-test.true (counter_placed _ _ _ _ here c.put_frame-w.ensures)

pub returns : goal.returns
returns c = back_done c.loop.invariant c.loop.auto.counter c.loop-test.false
