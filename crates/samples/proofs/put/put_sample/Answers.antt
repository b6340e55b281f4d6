use Rattle.reading.specs.Sizes.{depth_limit}
use Rattle.reading.specs.Layout.{base as base_mode, opened, samples}
use Rattle.store.proofs.Placing.{frame_here, frame_in, frame_start, frame_word}
use Rattle.samples.proofs.Placed.{sample_inner, sample_placed}
use Rattle.samples.proofs.put.put_sample.Goals as goal

pub be32-format-requires : goal.be32-format-requires
be32-format-requires c = frame_word 1 0 (opened (samples base_mode depth_limit)) _ _ _ _ c.requires

pub put_frame-own-requires : goal.put_frame-own-requires
put_frame-own-requires c = frame_here 1 0 (opened (samples base_mode depth_limit)) _ _ _ _ c.requires

pub overflow_add-at : goal.overflow_add-at
overflow_add-at c = frame_start 1 0 (opened (samples base_mode depth_limit)) _ _ _ _ c.requires

pub put_sample_data-requires-clause-at_in_bounds : goal.put_sample_data-requires-clause-at_in_bounds
put_sample_data-requires-clause-at_in_bounds c = frame_in 1 0 (opened (samples base_mode depth_limit)) _ _ _ _ c.requires

pub put_sample_data-requires-clause-ready : goal.put_sample_data-requires-clause-ready
put_sample_data-requires-clause-ready c = sample_inner _ _ _ _ c.requires c.put_frame-own.ensures c.be32-format.ensures c.index_at-me.ensures

pub returns : goal.returns
returns c = sample_placed _ _ _ _ c.requires c.put_frame-own.ensures c.be32-format.ensures c.index_at-me.ensures c.put_sample_data.ensures
