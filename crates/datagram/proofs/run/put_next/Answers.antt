use Rattle.std.proofs.Common.{refl}
use Rattle.datagram.proofs.Running.{part_more, part_placed}
use Rattle.datagram.proofs.run.put_next.Goals as goal

pub overflow_add-result : goal.overflow_add-result
overflow_add-result c = part_more _ _ _ _ c.requires.ready c.index_at.ensures c.put_datagram-w.ensures

pub returns : goal.returns
returns c = part_placed _ _ _ _ c.requires.ready c.index_at.ensures c.put_datagram-w.ensures refl
