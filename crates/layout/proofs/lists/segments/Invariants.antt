use Rattle.std.proofs.Common.{◌≡◌, ◌-◌}
use Rattle.reading.specs.Cursor.{times, follow}
use Rattle.reading.specs.Layout.{segment}
use Rattle.xdr.specs.Shown.{Inside, place}
use Rattle.layout.proofs.lists.segments.Given as goal

abbrev pub invariant-loop-i : goal.invariant-loop-i
invariant-loop-i l = Inside l.s l.end × (times (l.n - l.i) (follow segment) l.s (place l.end) ≡ times l.n (follow segment) l.s (place l.first))
