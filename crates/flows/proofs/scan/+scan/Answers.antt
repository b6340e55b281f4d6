use Rattle.std.proofs.Common.{◌-◌, rules, sym, ◌∙◌}
use Rattle.reading.specs.Sizes.{depth_limit}
use Rattle.reading.specs.Layout.{flow, pdu}
use Rattle.reading.proofs.Counts.{pdu_cut, pdu_held}
use Rattle.layout.specs.Shown.{mode_of}
use Rattle.layout.proofs.Scan.{frame_ends, frame_scan, scan_count, scan_done, scan_on, scan_stop, scan_turn, scan_word}
use Rattle.flows.proofs.Scanning.{aggregation_cut, aggregation_held, data_got, data_stop, flow_thrift, pdu_thrift, record_cut, record_deep, record_got, record_stop}
use Rattle.flows.proofs.scan.+scan.Goals as goal

-- ---- what a record holds

pub flow_data-returns-in_err-end : goal.flow_data-returns-in_err-end
flow_data-returns-in_err-end t c =
    let e = data_stop (mode_of c.args.mode) (pdu (depth_limit - c.args.left) (flow (mode_of c.args.mode) depth_limit c.args.left)) c.args.format _ _ c.args.count c.if-format-eq1016.false c.in_err-end.ensures in
    search rules

pub flow_data-returns : goal.flow_data-returns
flow_data-returns t c = data_got _ _ _ _ _ _ c.if-format-eq1016.false c.in_ok-end.ensures

-- ---- a record

pub flow_record-returns-then-left-eq0 : goal.flow_record-returns-then-left-eq0
flow_record-returns-then-left-eq0 t c = rw c.refusal.ensures (record_deep _ _ _ _ _ c.if-left-eq0.true)

pub flow_record-returns-in_err-frame : goal.flow_record-returns-in_err-frame
flow_record-returns-in_err-frame t c =
    let e = record_cut (mode_of c.args.mode) c.args.left _ _ c.args.count c.if-left-eq0.false c.in_err-frame.ensures in
    search rules

pub flow_record-end-requires : goal.flow_record-end-requires
flow_record-end-requires t c = let e = frame_ends _ _ c.in_ok-frame.ensures in search rules

pub flow_record-slice_bounds-held-end : goal.flow_record-slice_bounds-held-end
flow_record-slice_bounds-held-end t c = let e = frame_ends _ _ c.in_ok-frame.ensures in search rules

pub flow_record-flow_data-requires : goal.flow_record-flow_data-requires
flow_record-flow_data-requires t c = (search rules, rw (c.end.ensures, c.first-inner.ensures) (frame_scan _ _ c.in_ok-frame.ensures _ c.requires))

pub flow_record-returns-in_err-found : goal.flow_record-returns-in_err-found
flow_record-returns-in_err-found t c =
    let i = rw (c.end.ensures, c.first-inner.ensures) at c.in_err-found.ensures in
    let e = record_stop (mode_of c.args.mode) c.args.left _ _ c.args.count c.if-left-eq0.false c.in_ok-frame.ensures i in
    search rules

pub flow_record-returns : goal.flow_record-returns
flow_record-returns t c =
    let i = rw (c.end.ensures, c.first-inner.ensures) at c.in_ok-found.ensures in
    rw c.with_steps.ensures (record_got (mode_of c.args.mode) c.args.left _ _ c.args.count c.if-left-eq0.false c.in_ok-frame.ensures i)

-- ---- records in a row

pub flow_records-returns-in_err-k : goal.flow_records-returns-in_err-k
flow_records-returns-in_err-k t c =
    let e = scan_stop (flow (mode_of c.args.mode) depth_limit c.args.left) _ c.loop-i.cur c.loop-i.found c.args.n c.loop-i.i c.loop-i.invariant.1 c.loop-i-test.true c.in_err-k.ensures in
    search rules

pub flow_records-loop-i-preserved : goal.flow_records-loop-i-preserved
flow_records-loop-i-preserved t c = (
  scan_on _ (flow_thrift _ _ _) _ _ _ c.loop-i.invariant.0 c.in_ok-k.ensures,
  scan_turn _ _ c.loop-i.cur c.loop-i.found c.args.n c.loop-i.i c.loop-i.invariant.1 c.loop-i-test.true c.in_ok-k.ensures,
)

pub flow_records-returns : goal.flow_records-returns
flow_records-returns t c = scan_done _ _ c.loop-i.cur c.loop-i.found c.args.n c.loop-i.i c.loop-i.invariant.1 c.loop-i-test.false

-- ---- PDUs

pub pdus-returns-in_err-n : goal.pdus-returns-in_err-n
pdus-returns-in_err-n t c =
    let e = aggregation_cut (mode_of c.args.mode) (pdu (depth_limit - c.args.left) (flow (mode_of c.args.mode) depth_limit c.args.left)) _ _ c.args.count c.in_err-n.ensures in
    search rules

pub pdus-loop-i-init : goal.pdus-loop-i-init
pdus-loop-i-init t c = (scan_word _ _ _ c.requires c.in_ok-n.ensures, search rules)

pub pdus-returns-in_err-records : goal.pdus-returns-in_err-records
pdus-returns-in_err-records t c =
    let i = scan_stop (pdu (depth_limit - c.args.left) (flow (mode_of c.args.mode) depth_limit c.args.left)) _ c.loop-i.cur c.loop-i.found c.in_ok-n.n c.loop-i.i c.loop-i.invariant.1 c.loop-i-test.true (pdu_cut _ _ _ _ c.loop-i.found c.in_err-records.ensures) in
    let e = aggregation_held (mode_of c.args.mode) (pdu (depth_limit - c.args.left) (flow (mode_of c.args.mode) depth_limit c.args.left)) _ _ c.args.count c.in_ok-n.ensures i in
    search rules

pub pdus-flow_records-requires : goal.pdus-flow_records-requires
pdus-flow_records-requires t c = (search rules, scan_count _ _ _ c.loop-i.invariant.0 c.in_ok-records.ensures)

pub pdus-returns-in_err-k : goal.pdus-returns-in_err-k
pdus-returns-in_err-k t c =
    let i = scan_stop (pdu (depth_limit - c.args.left) (flow (mode_of c.args.mode) depth_limit c.args.left)) _ c.loop-i.cur c.loop-i.found c.in_ok-n.n c.loop-i.i c.loop-i.invariant.1 c.loop-i-test.true (c.in_err-k.ensures ∙ sym (pdu_held _ _ _ _ c.loop-i.found c.in_ok-records.ensures)) in
    let e = aggregation_held (mode_of c.args.mode) (pdu (depth_limit - c.args.left) (flow (mode_of c.args.mode) depth_limit c.args.left)) _ _ c.args.count c.in_ok-n.ensures i in
    search rules

pub pdus-loop-i-preserved : goal.pdus-loop-i-preserved
pdus-loop-i-preserved t c =
    let e = c.in_ok-k.ensures ∙ sym (pdu_held _ _ _ _ c.loop-i.found c.in_ok-records.ensures) in (
      scan_on (pdu (depth_limit - c.args.left) (flow (mode_of c.args.mode) depth_limit c.args.left)) (pdu_thrift _ _ _ _) _ _ _ c.loop-i.invariant.0 e,
      scan_turn (pdu (depth_limit - c.args.left) (flow (mode_of c.args.mode) depth_limit c.args.left)) _ c.loop-i.cur c.loop-i.found c.in_ok-n.n c.loop-i.i c.loop-i.invariant.1 c.loop-i-test.true e,
    )

pub pdus-returns : goal.pdus-returns
pdus-returns t c = aggregation_held (mode_of c.args.mode) (pdu (depth_limit - c.args.left) (flow (mode_of c.args.mode) depth_limit c.args.left)) _ _ c.args.count c.in_ok-n.ensures (scan_done (pdu (depth_limit - c.args.left) (flow (mode_of c.args.mode) depth_limit c.args.left)) _ c.loop-i.cur c.loop-i.found c.in_ok-n.n c.loop-i.i c.loop-i.invariant.1 c.loop-i-test.false)
