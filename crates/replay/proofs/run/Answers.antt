-- Where the code is 0 the store has room for the descriptors that are printed.
use Rattle.std.proofs.Common.{rules}
use Rattle.datagram.proofs.Deciding.{ran_room}
use Rattle.replay.proofs.run.Goals as goal

pub left-requires : goal.left-requires
left-requires g c = search (ran_room, rules)
