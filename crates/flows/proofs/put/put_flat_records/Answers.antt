use Rattle.std.proofs.Common.{refl}
use Rattle.store.proofs.Loops.{left_first, left_next}
use Rattle.flows.proofs.Placing.{record_flat, record_here, record_word}
use Rattle.flows.proofs.put.put_flat_records.Goals as goal

pub be32-requires : goal.be32-requires
be32-requires c = record_word _ _ _ _ _ (left_first c.loop-i.invariant c.loop-i-test.true)

pub put_frame-w-requires : goal.put_frame-w-requires
put_frame-w-requires c = record_here _ _ _ _ _ (left_first c.loop-i.invariant c.loop-i-test.true)

pub loop-i-preserved : goal.loop-i-preserved
loop-i-preserved c = left_next c.loop-i.invariant c.loop-i-test.true (record_flat _ _ _ _ _ (left_first c.loop-i.invariant c.loop-i-test.true) _ refl c.put_frame-w.ensures c.be32.ensures c.if-be32-eq1016.false)
