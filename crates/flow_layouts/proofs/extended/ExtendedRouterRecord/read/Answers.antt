-- Made by layouts/make from layouts/table.
use Rattle.std.proofs.Common.{rules}
use Rattle.layout.proofs.Laws.{after_field}
use Rattle.flow_layouts.proofs.extended.ExtendedRouterRecord.read.Goals as goal

pub words-requires : goal.words-requires
words-requires c =
    let i1 = after_field _ _ c.requires _ c.in_ok-next_hop.ensures in
    search rules
