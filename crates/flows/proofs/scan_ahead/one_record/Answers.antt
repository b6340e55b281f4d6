use Rattle.std.proofs.Common.{rules}
use Rattle.layout.proofs.Scan.{frame_ends}
use Rattle.flows.proofs.Ahead.{frame_inside, record_passed}
use Rattle.flows.proofs.scan_ahead.one_record.Goals as goal

pub end-requires : goal.end-requires
end-requires c = let e = frame_ends _ _ c.in-Ok.ensures in search rules

pub slice_bounds-held-end : goal.slice_bounds-held-end
slice_bounds-held-end c = let e = frame_ends _ _ c.in-Ok.ensures in search rules

pub payload-requires-clause-inside : goal.payload-requires-clause-inside
payload-requires-clause-inside c = rw (c.end.ensures, c.first.ensures) (frame_inside _ _ c.in-Ok.ensures c.requires.inside c.requires.s_len_bound)

pub returns : goal.returns
returns c = rw c.with_steps.ensures (record_passed _ _ c.in-Ok.ensures (rw (c.end.ensures, c.first.ensures) at c.in_ok-end.ensures))
