use Rattle.reading.specs.Sizes.{depth_limit}
use Rattle.flows.specs.Passing.{FlatOf}
use Rattle.samples.proofs.put.put_sample_flows.Given as goal

abbrev pub invariant-loop-rest : goal.invariant-loop-rest
invariant-loop-rest l = FlatOf depth_limit l.s l.fn.store l.at l.n l.pen (record { at = l.cur; word = l.word; rest = l.rest }) l.store

abbrev pub decreases-loop-rest : goal.decreases-loop-rest
decreases-loop-rest l = l.rest
