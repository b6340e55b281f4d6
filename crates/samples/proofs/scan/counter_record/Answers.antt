use Rattle.std.proofs.Common.{rules, ◌∙◌}
use Rattle.reading.specs.Layout.{fixed_rows, counters, opened}
use Rattle.reading.proofs.Counts.{frame_stop}
use Rattle.layout.proofs.Scan.{frame_ends, frame_scan, held_got, held_stop, scan_inside}
use Rattle.counters.proofs.Passing.{counter_passed}
use Rattle.samples.proofs.Sampling.{counter_got, counter_stop}
use Rattle.samples.proofs.scan.counter_record.Goals as goal

pub returns-in_err-frame : goal.returns-in_err-frame
returns-in_err-frame c = let e = frame_stop 3 1 (opened (fixed_rows counters)) _ _ c.args.count c.in_err-frame.ensures in search rules

pub end-requires : goal.end-requires
end-requires c = let e = frame_ends _ _ c.in_ok-frame.ensures in search rules

pub slice_bounds-held-end : goal.slice_bounds-held-end
slice_bounds-held-end c = let e = frame_ends _ _ c.in_ok-frame.ensures in search rules

pub pass-requires : goal.pass-requires
pass-requires c = rw (c.end.ensures, c.first.ensures) (scan_inside (frame_scan _ _ c.in_ok-frame.ensures _ c.requires))

pub returns-in_err-end : goal.returns-in_err-end
returns-in_err-end c =
    let i = rw (c.end.ensures, c.first.ensures) at c.in_err-end.ensures in
    let e = held_stop 3 1 (opened (fixed_rows counters)) _ _ c.args.count c.in_ok-frame.ensures (counter_stop _ _ _ _ (i ∙ counter_passed _ _ _)) in
    search rules

pub returns : goal.returns
returns c =
    let i = rw (c.end.ensures, c.first.ensures) at c.in_ok-end.ensures in
    rw c.with_steps.ensures (held_got 3 1 (opened (fixed_rows counters)) _ _ c.args.count c.in_ok-frame.ensures (counter_got _ _ _ _ (i ∙ counter_passed _ _ _)))
