use Rattle.std.proofs.Common.{◌≡◌, ◌-◌}
use Rattle.reading.specs.Cursor.{times, follow}
use Rattle.reading.specs.Layout.{counter}
use Rattle.reading.proofs.Counts.{counted}
use Rattle.xdr.specs.Shown.{place}
use Rattle.layout.specs.Scanned.{Scan}
use Rattle.samples.proofs.scan.counter_records.Given as goal

abbrev pub invariant-loop-i : goal.invariant-loop-i
invariant-loop-i l =
    Scan l.s l.cur l.found
    × (counted l.found (times (l.n - l.i) (follow counter) l.s (place l.cur)) ≡ counted l.count (times l.n (follow counter) l.s (place l.fn.c)))
