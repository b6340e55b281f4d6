use Rattle.reading.specs.Layout.{flow}
use Rattle.reading.specs.Sizes.{depth_limit}
use Rattle.layout.specs.Shown.{mode_of}
use Rattle.samples.proofs.Sampling.{none_left}
use Rattle.samples.proofs.scan.flow_records.Goals as goal

pub returns-then-ahead-eq0 : goal.returns-then-ahead-eq0
returns-then-ahead-eq0 c = none_left (flow (mode_of c.args.mode) depth_limit depth_limit) _ _ _ _ c.if-ahead-eq0.true (c.flow_records-ahead.ensures.same (mode_of c.args.mode))
