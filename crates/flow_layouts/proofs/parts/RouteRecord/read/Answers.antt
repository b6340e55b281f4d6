use Rattle.std.proofs.Common.{rules}
use Rattle.layout.proofs.Laws.{after_field}
use Rattle.flow_layouts.proofs.parts.RouteRecord.read.Goals as goal

pub list-requires : goal.list-requires
list-requires c = let i1 = after_field _ _ c.requires _ c.in_ok-dst_as_path.ensures in search rules

pub read_u32-requires : goal.read_u32-requires
read_u32-requires c =
    let i1 = after_field _ _ c.requires _ c.in_ok-dst_as_path.ensures in
    let i2 = after_field _ _ i1 _ c.in_ok-communities.ensures in
    search rules
