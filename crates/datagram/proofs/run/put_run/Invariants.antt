use Rattle.std.proofs.Common.{◌-◌, ◌≡◌, ◌≤◌, length}
use Rattle.reading.specs.Layout.{base as base_mode}
use Rattle.reading.specs.Answer.{from}
use Rattle.reading.proofs.Places.{end_of}
use Rattle.reading.proofs.Runs.{run_from}
use Rattle.store.specs.Written.{Ready, placed}
use Rattle.datagram.specs.Shown.{pen_at}
use Rattle.datagram.proofs.run.put_run.Given as goal

abbrev pub invariant-loop-cur : goal.invariant-loop-cur
invariant-loop-cur l = record {
  inside : l.cur ≤ length l.s;
  ends : length l.s ≡ end_of (run_from base_mode l.s (from l.cur));
  ready : Ready l.s l.store (pen_at l.word) (run_from base_mode l.s (from l.cur));
  same : placed (pen_at l.word) (run_from base_mode l.s (from l.cur)) l.store ≡ placed (pen_at 0) (run_from base_mode l.s (from 0)) l.fn.store;
}

abbrev pub decreases-loop-cur : goal.decreases-loop-cur
decreases-loop-cur l = length l.s - l.cur
