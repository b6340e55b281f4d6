-- Where the code is 0 the store has room for the descriptors that are listed.
use Rattle.std.proofs.Common.{rules}
use Rattle.datagram.proofs.Deciding.{ran_room}
use Rattle.listing_run.proofs.main.Goals as goal

pub list-requires : goal.list-requires
list-requires c = search (ran_room, rules)
