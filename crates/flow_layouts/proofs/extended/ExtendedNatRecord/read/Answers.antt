-- Made by layouts/make from layouts/table.
use Rattle.std.proofs.Common.{rules}
use Rattle.layout.proofs.Laws.{after_field}
use Rattle.flow_layouts.proofs.extended.ExtendedNatRecord.read.Goals as goal

pub parse_address-requires-2 : goal.parse_address-requires-2
parse_address-requires-2 c =
    let i1 = after_field _ _ c.requires _ c.in_ok-src_address.ensures in
    search rules
