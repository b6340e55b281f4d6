use Rattle.std.proofs.Common.{◌≡◌, ◌-◌}
use Rattle.reading.specs.Sizes.{depth_limit}
use Rattle.reading.specs.Cursor.{times, follow}
use Rattle.reading.specs.Layout.{sample}
use Rattle.reading.proofs.Counts.{counted}
use Rattle.xdr.specs.Shown.{place}
use Rattle.layout.specs.Scanned.{Scan}
use Rattle.layout.specs.Shown.{mode_of}
use Rattle.samples.proofs.scan.samples.Given as goal

abbrev pub invariant-loop-i : goal.invariant-loop-i
invariant-loop-i l =
    Scan l.s l.cur l.found
    × (counted l.found (times (l.n - l.i) (follow (sample (mode_of l.mode) depth_limit)) l.s (place l.cur))
    ≡ counted l.count (times l.n (follow (sample (mode_of l.mode) depth_limit)) l.s (place l.fn.c)))
