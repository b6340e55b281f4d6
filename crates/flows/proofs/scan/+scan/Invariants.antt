use Rattle.std.proofs.Common.{◌≡◌, ◌-◌, ◌+◌, ◌*◌}
use Rattle.reading.specs.Sizes.{depth_limit}
use Rattle.reading.specs.Cursor.{times, follow}
use Rattle.reading.specs.Layout.{flow, pdu}
use Rattle.reading.proofs.Counts.{counted}
use Rattle.xdr.specs.Shown.{place}
use Rattle.layout.specs.Scanned.{Scan}
use Rattle.layout.specs.Shown.{mode_of}
use Rattle.flows.proofs.scan.+scan.Given as goal

abbrev pub decreases-flow_record : goal.decreases-flow_record
decreases-flow_record l = 4 * l.left

abbrev pub decreases-flow_records : goal.decreases-flow_records
decreases-flow_records l = 4 * l.left + 1

abbrev pub decreases-pdus : goal.decreases-pdus
decreases-pdus l = 4 * l.left + 2

abbrev pub decreases-flow_data : goal.decreases-flow_data
decreases-flow_data l = 4 * l.left + 3

abbrev pub invariant-flow_records-loop-i : goal.invariant-flow_records-loop-i
invariant-flow_records-loop-i l =
    Scan l.s l.cur l.found
    × (counted l.found (times (l.n - l.i) (follow (flow (mode_of l.mode) depth_limit l.left)) l.s (place l.cur))
    ≡ counted l.fn.count (times l.n (follow (flow (mode_of l.mode) depth_limit l.left)) l.s (place l.fn.c)))

abbrev pub invariant-pdus-loop-i : goal.invariant-pdus-loop-i
invariant-pdus-loop-i l =
    Scan l.s l.cur l.found
    × (counted l.found (times (l.n - l.i) (follow (pdu (depth_limit - l.left) (flow (mode_of l.mode) depth_limit l.left))) l.s (place l.cur))
    ≡ counted l.initial.found (times l.n (follow (pdu (depth_limit - l.left) (flow (mode_of l.mode) depth_limit l.left))) l.s (place l.initial.cur)))
