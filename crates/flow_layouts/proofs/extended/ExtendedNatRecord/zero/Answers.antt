-- Made by layouts/make from layouts/table.
use Rattle.std.proofs.Common.{rules}
use Rattle.reading.specs.Layout.{flows}
use Rattle.reading.specs.Answer.{layout_of}
use Rattle.flow_layouts.proofs.Zeros.{all_zero}
use Rattle.flow_layouts.proofs.extended.ExtendedNatRecord.zero.Goals as goal

pub returns : goal.returns
unfolding layout_of flows
returns c mode =
    let e1 = all_zero c.default.ensures.0.1 in
    let e2 = all_zero c.default.ensures.1.1 in
    search rules
