-- Made by layouts/make from layouts/table.
use Rattle.std.proofs.Common.{rules}
use Rattle.layout.proofs.Laws.{after_field}
use Rattle.flow_layouts.proofs.mpls.ExtendedMplsFecRecord.read.Goals as goal

pub read_u32-requires : goal.read_u32-requires
read_u32-requires c =
    let i1 = after_field _ _ c.requires _ c.in_ok-fec_addr_prefix.ensures in
    search rules
