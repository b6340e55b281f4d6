use Rattle.std.proofs.Common.{◌+◌, ◌*◌, ◌-◌}
use Rattle.reading.specs.Sizes.{depth_limit}
use Rattle.reading.specs.Layout.{base as base_mode, flow, pdu}
use Rattle.store.proofs.Loops.{Left}
use Rattle.store.specs.Written.{a_pen}
use Rattle.flows.proofs.put.+put.Given as goal

abbrev pub decreases-put_flow_record : goal.decreases-put_flow_record
decreases-put_flow_record l = 4 * l.left

abbrev pub decreases-put_flow_records : goal.decreases-put_flow_records
decreases-put_flow_records l = 4 * l.left + 1

abbrev pub decreases-put_pdus : goal.decreases-put_pdus
decreases-put_pdus l = 4 * l.left + 3

abbrev pub invariant-put_flow_records-loop-i : goal.invariant-put_flow_records-loop-i
invariant-put_flow_records-loop-i l = Left (flow base_mode depth_limit l.left) l.s l.n l.pen l.at l.fn.store l.i l.cur l.word l.store

abbrev pub invariant-put_pdus-loop-i : goal.invariant-put_pdus-loop-i
invariant-put_pdus-loop-i l = Left (pdu (depth_limit - l.left) (flow base_mode depth_limit l.left)) l.s l.n (a_pen l.base l.parent l.initial.to) l.initial.cur l.fn.store l.i l.cur l.to l.store
