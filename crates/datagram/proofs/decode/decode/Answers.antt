use Rattle.std.proofs.Common.{◌∙◌}
use Rattle.layout.specs.Shown.{mode_of}
use Rattle.datagram.proofs.Deciding.{all_ready, all_stored, is_read, no_room, stays, too_long}
use Rattle.datagram.proofs.decode.decode.Goals as goal

pub returns-then-too_long : goal.returns-then-too_long
returns-then-too_long c = too_long (mode_of c.args.mode) _ _ c.refused.ensures (c.into.ensures ∙ rw c.refusal.ensures) c.if-too_long.true

pub returns-in-Err : goal.returns-in-Err
returns-in-Err c = stays (mode_of c.args.mode) _ _ c.if-too_long.false c.in-Err.ensures c.refused-in-Err.ensures c.into-in-Err.ensures

pub returns-then-store-k : goal.returns-then-store-k
returns-then-store-k c = no_room (mode_of c.args.mode) _ _ c.if-too_long.false c.in-Ok.ensures c.if-store-k.true c.refused-then-store-k.ensures c.no_room.ensures

pub put_datagram-requires-clause-ready : goal.put_datagram-requires-clause-ready
put_datagram-requires-clause-ready c = all_ready (mode_of c.args.mode) _ _ c.if-too_long.false c.in-Ok.ensures c.if-store-k.false

pub accepted-requires : goal.accepted-requires
accepted-requires c = is_read (mode_of c.args.mode) _ c.args.store.now c.if-too_long.false c.in-Ok.ensures

pub returns-else-store-k : goal.returns-else-store-k
returns-else-store-k c = all_stored (mode_of c.args.mode) _ _ c.if-too_long.false c.in-Ok.ensures c.if-store-k.false c.put_datagram.ensures c.accepted.ensures
