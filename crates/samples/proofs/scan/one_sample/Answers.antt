use Rattle.std.proofs.Common.{rules}
use Rattle.reading.specs.Layout.{opened, samples}
use Rattle.reading.specs.Sizes.{depth_limit}
use Rattle.reading.proofs.Counts.{frame_stop}
use Rattle.layout.specs.Shown.{mode_of}
use Rattle.layout.proofs.Scan.{frame_ends, frame_scan, held_got, held_stop}
use Rattle.samples.proofs.scan.one_sample.Goals as goal

pub returns-in_err-frame : goal.returns-in_err-frame
returns-in_err-frame c = let e = frame_stop 1 0 (opened (samples (mode_of c.args.mode) depth_limit)) _ _ c.args.count c.in_err-frame.ensures in search rules

pub end-requires : goal.end-requires
end-requires c = let e = frame_ends _ _ c.in_ok-frame.ensures in search rules

pub slice_bounds-payload-end : goal.slice_bounds-payload-end
slice_bounds-payload-end c = let e = frame_ends _ _ c.in_ok-frame.ensures in search rules

pub sample_data-requires : goal.sample_data-requires
sample_data-requires c = rw (c.end.ensures, c.first.ensures) (frame_scan _ _ c.in_ok-frame.ensures _ c.requires)

pub returns-in_err-found : goal.returns-in_err-found
returns-in_err-found c =
    let i = rw (c.end.ensures, c.first.ensures) at c.in_err-found.ensures in
    let e = held_stop 1 0 (opened (samples (mode_of c.args.mode) depth_limit)) _ _ c.args.count c.in_ok-frame.ensures i in
    search rules

pub returns : goal.returns
returns c =
    let i = rw (c.end.ensures, c.first.ensures) at c.in_ok-found.ensures in
    rw c.with_steps.ensures (held_got 1 0 (opened (samples (mode_of c.args.mode) depth_limit)) _ _ c.args.count c.in_ok-frame.ensures i)
