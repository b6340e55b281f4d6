use Rattle.datagram.proofs.Deciding.{header_known, never_refused}
use Rattle.datagram.proofs.decode.Decoded.accepted.Goals as goal

pub returns-in-Err : goal.returns-in-Err
returns-in-Err c = never_refused _ c.requires c.in-Err.ensures

pub returns-in-Ok : goal.returns-in-Ok
returns-in-Ok c = header_known _ c.requires c.in-Ok.header c.in-Ok.ensures
