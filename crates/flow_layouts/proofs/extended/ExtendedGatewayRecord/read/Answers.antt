-- Made by layouts/make from layouts/table.
use Rattle.std.proofs.Common.{rules}
use Rattle.layout.proofs.Laws.{after_field, after_fields}
use Rattle.flow_layouts.proofs.extended.ExtendedGatewayRecord.read.Goals as goal

pub words-requires : goal.words-requires
words-requires c =
    let i1 = after_field _ _ c.requires _ c.in_ok-next_hop.ensures in
    search rules

pub read-requires : goal.read-requires
read-requires c =
    let i1 = after_field _ _ c.requires _ c.in_ok-next_hop.ensures in
    let i2 = after_fields _ _ i1 _ c.in_ok-as_number.ensures in
    search rules
