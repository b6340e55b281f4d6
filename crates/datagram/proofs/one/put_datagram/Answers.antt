use Rattle.reading.specs.Layout.{last_number}
use Rattle.datagram.specs.Shown.{header_fields}
use Rattle.datagram.proofs.OneDatagram.{datagram_placed, end_forward, header_there, length32, own_room, samples_ready}
use Rattle.datagram.proofs.one.put_datagram.Goals as goal

pub returns-in_default : goal.returns-in_default
returns-in_default c = header_there _ _ _ _ c.requires.ready c.requires.at_in_bounds c.in_default.ensures

pub put_samples-w-requires : goal.put_samples-w-requires
unfolding last_number
put_samples-w-requires c = samples_ready _ _ _ _ c.requires.ready c.requires.at_in_bounds (header_fields c.in-Ok.header) c.in-Ok.ensures

pub overflow_sub-end : goal.overflow_sub-end
unfolding last_number
overflow_sub-end c = end_forward _ _ _ _ c.requires.ready c.requires.at_in_bounds (header_fields c.in-Ok.header) c.in-Ok.ensures c.put_samples-w.ensures

pub overflow_cast-end : goal.overflow_cast-end
unfolding last_number
overflow_cast-end c = length32 _ _ _ _ c.requires.ready c.requires.at_in_bounds (header_fields c.in-Ok.header) c.in-Ok.ensures c.put_samples-w.ensures

pub put-requires : goal.put-requires
unfolding last_number
put-requires c = own_room _ _ _ _ c.requires.ready c.requires.at_in_bounds (header_fields c.in-Ok.header) c.in-Ok.ensures c.put_samples-w.ensures

pub returns : goal.returns
unfolding last_number
returns c = datagram_placed _ _ _ _ c.requires.ready c.requires.at_in_bounds (header_fields c.in-Ok.header) c.in-Ok.ensures c.put_samples-w.ensures c.put.ensures
