-- Where the code is 0 the store has room for the descriptors that are listed.
use Rattle.std.proofs.Common.{rules}
use Rattle.datagram.proofs.Deciding.{decoded_room}
use Rattle.listing.proofs.main.Goals as goal

pub list-requires : goal.list-requires
list-requires c = search (decoded_room, rules)
