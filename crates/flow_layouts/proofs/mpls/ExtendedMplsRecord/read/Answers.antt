-- Made by layouts/make from layouts/table.
use Rattle.std.proofs.Common.{rules}
use Rattle.layout.proofs.Laws.{after_field}
use Rattle.flow_layouts.proofs.mpls.ExtendedMplsRecord.read.Goals as goal

pub list-requires : goal.list-requires
list-requires c =
    let i1 = after_field _ _ c.requires _ c.in_ok-next_hop.ensures in
    search rules

pub list-requires-2 : goal.list-requires-2
list-requires-2 c =
    let i1 = after_field _ _ c.requires _ c.in_ok-next_hop.ensures in
    let i2 = after_field _ _ i1 _ c.in_ok-in_stack.ensures in
    search rules
