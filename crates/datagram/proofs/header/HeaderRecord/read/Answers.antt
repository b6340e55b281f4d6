use Rattle.std.proofs.Common.{rules}
use Rattle.layout.proofs.Laws.{after_field}
use Rattle.datagram.proofs.header.HeaderRecord.read.Goals as goal

pub words-requires : goal.words-requires
words-requires c =
    let i1 = after_field _ _ (after_field _ _ c.requires _ c.in_ok-version.ensures) _ c.in_ok-agent_address.ensures in
    search rules
