use Rattle.reading.specs.Sizes.{depth_limit}
use Rattle.reading.specs.Layout.{base as base_mode, flow}
use Rattle.store.proofs.Loops.{Left}
use Rattle.flows.proofs.put.put_flat_records.Given as goal

abbrev pub invariant-loop-i : goal.invariant-loop-i
invariant-loop-i l = Left (flow base_mode depth_limit l.left) l.s l.n l.pen l.at l.fn.store l.i l.cur l.word l.store
