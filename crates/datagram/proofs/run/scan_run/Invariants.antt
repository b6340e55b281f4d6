use Rattle.std.proofs.Common.{◌-◌, ◌≡◌, length}
use Rattle.reading.specs.Answer.{from}
use Rattle.reading.proofs.Counts.{counted}
use Rattle.reading.proofs.Runs.{run_from}
use Rattle.xdr.specs.Shown.{place}
use Rattle.layout.specs.Scanned.{Scan}
use Rattle.layout.specs.Shown.{mode_of}
use Rattle.datagram.proofs.run.scan_run.Given as goal

abbrev pub invariant-loop-cur : goal.invariant-loop-cur
invariant-loop-cur l = Scan l.s l.cur l.found × (counted l.found (run_from (mode_of l.mode) l.s (place l.cur)) ≡ counted 0 (run_from (mode_of l.mode) l.s (from 0)))

abbrev pub decreases-loop-cur : goal.decreases-loop-cur
decreases-loop-cur l = length l.s - l.cur.at
