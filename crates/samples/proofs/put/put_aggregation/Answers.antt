use Rattle.std.proofs.Common.{refl, sym}
use Rattle.reading.specs.Sizes.{depth_limit}
use Rattle.flows.proofs.Placing.{record_here, record_in, record_inner, record_placed, record_start}
use Rattle.samples.proofs.put.put_aggregation.Goals as goal

pub put_frame-own-requires : goal.put_frame-own-requires
put_frame-own-requires c = record_here depth_limit _ _ _ _ c.requires.ready

pub overflow_add-at : goal.overflow_add-at
overflow_add-at c = record_start depth_limit _ _ _ _ c.requires.ready

pub put_pdus-requires-clause-at_in_bounds : goal.put_pdus-requires-clause-at_in_bounds
put_pdus-requires-clause-at_in_bounds c = record_in depth_limit _ _ _ _ c.requires.ready

pub put_pdus-requires-clause-ready : goal.put_pdus-requires-clause-ready
put_pdus-requires-clause-ready c = record_inner depth_limit _ _ _ _ c.requires.ready 1 refl c.put_frame-own.ensures (sym c.requires.at_value) refl

pub returns : goal.returns
returns c = record_placed depth_limit _ _ _ _ c.requires.ready 1 refl c.put_frame-own.ensures (sym c.requires.at_value) refl c.put_pdus.ensures
