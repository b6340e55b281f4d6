use Rattle.reading.specs.Sizes.{depth_limit}
use Rattle.reading.specs.Layout.{base as base_mode, sample}
use Rattle.std.proofs.Common.{◌-◌}
use Rattle.store.proofs.Loops.{Left}
use Rattle.samples.proofs.put.put_samples.Given as goal

abbrev pub invariant-loop : goal.invariant-loop
invariant-loop l = Left (sample base_mode depth_limit) l.s l.n l.pen l.at l.fn.store (l.n - l.counter) l.cur l.word l.store
