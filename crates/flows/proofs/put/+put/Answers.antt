use Rattle.std.proofs.Common.{arith, refl, rules}
use Rattle.store.proofs.Loops.{left_all, left_done, left_first, left_next}
use Rattle.flows.proofs.Placing.{data_filled, data_inner, data_word, one_less, pdu_first32, pdu_forward, pdu_inner, pdu_length32, pdu_own, pdu_placed, pdu_start, pdu_start32, pdu_word, record_flat, record_here, record_in, record_inner, record_placed, record_some, record_start, record_word}
use Rattle.flows.proofs.put.+put.Goals as goal

-- ---- a record

pub put_flow_record-be32-format-requires : goal.put_flow_record-be32-format-requires
put_flow_record-be32-format-requires t c = record_word _ _ _ _ _ c.requires.ready

pub put_flow_record-put_frame-own-requires : goal.put_flow_record-put_frame-own-requires
put_flow_record-put_frame-own-requires t c = record_here _ _ _ _ _ c.requires.ready

pub put_flow_record-returns-then-format-ne1016 : goal.put_flow_record-returns-then-format-ne1016
put_flow_record-returns-then-format-ne1016 t c = record_flat _ _ _ _ _ c.requires.ready _ refl c.put_frame-own.ensures c.be32-format.ensures c.if-format-ne1016.true

pub put_flow_record-overflow_add-at : goal.put_flow_record-overflow_add-at
put_flow_record-overflow_add-at t c = record_start _ _ _ _ _ c.requires.ready

pub put_flow_record-overflow_sub-left : goal.put_flow_record-overflow_sub-left
put_flow_record-overflow_sub-left t c = record_some _ _ _ _ _ c.requires.ready

pub put_flow_record-put_pdus-requires : goal.put_flow_record-put_pdus-requires
put_flow_record-put_pdus-requires t c =
    let some = record_some _ _ _ _ _ c.requires.ready in
    (search rules, (one_less c.requires.left_le_depth_limit, (record_in _ _ _ _ _ c.requires.ready, record_inner _ _ _ _ _ c.requires.ready _ refl c.put_frame-own.ensures c.be32-format.ensures c.if-format-ne1016.false)))

pub put_flow_record-returns : goal.put_flow_record-returns
put_flow_record-returns t c = record_placed _ _ _ _ _ c.requires.ready _ refl c.put_frame-own.ensures c.be32-format.ensures c.if-format-ne1016.false c.put_pdus.ensures

-- ---- records in a row

pub put_flow_records-put_flow_record-w-requires : goal.put_flow_records-put_flow_record-w-requires
put_flow_records-put_flow_record-w-requires t c = (search rules, (c.requires.left_le_depth_limit, left_first c.loop-i.invariant c.loop-i-test.true))

pub put_flow_records-loop-i-preserved : goal.put_flow_records-loop-i-preserved
put_flow_records-loop-i-preserved t c = left_next c.loop-i.invariant c.loop-i-test.true c.put_flow_record-w.ensures

pub put_flow_records-returns : goal.put_flow_records-returns
put_flow_records-returns t c = left_done c.loop-i.invariant c.loop-i-test.false

-- ---- PDUs

pub put_pdus-be32-n-requires : goal.put_pdus-be32-n-requires
put_pdus-be32-n-requires t c = data_word _ _ _ _ _ _ c.requires.ready c.requires.at_in_bounds

pub put_pdus-loop-i-init : goal.put_pdus-loop-i-init
put_pdus-loop-i-init t c = left_all _ _ _ _ _ _ (data_inner _ _ _ _ _ _ c.requires.ready c.requires.at_in_bounds c.be32-n.ensures c.index_at-parent.ensures)

pub put_pdus-be32-records-requires : goal.put_pdus-be32-records-requires
put_pdus-be32-records-requires t c = pdu_word _ _ _ _ _ _ _ _ c.loop-i.invariant.ready (omega (arith, c.loop-i-test.true))

pub put_pdus-overflow_add-start : goal.put_pdus-overflow_add-start
put_pdus-overflow_add-start t c = pdu_start _ _ _ _ _ _ _ _ c.loop-i.invariant.ready (omega (arith, c.loop-i-test.true))

pub put_pdus-put_flow_records-w-requires : goal.put_pdus-put_flow_records-w-requires
put_pdus-put_flow_records-w-requires t c =
    (search rules, (c.requires.left_le_depth_limit, pdu_inner _ _ _ _ _ _ _ _ c.loop-i.invariant.ready (omega (arith, c.loop-i-test.true)) c.be32-records.ensures c.index_at.ensures))

pub put_pdus-overflow_cast-start : goal.put_pdus-overflow_cast-start
put_pdus-overflow_cast-start t c = pdu_start32 _ _ _ _ _ _ _ _ c.loop-i.invariant.ready (omega (arith, c.loop-i-test.true))

pub put_pdus-overflow_sub-w : goal.put_pdus-overflow_sub-w
put_pdus-overflow_sub-w t c = pdu_forward _ _ _ _ _ _ _ _ c.loop-i.invariant.ready (omega (arith, c.loop-i-test.true)) c.be32-records.ensures c.index_at.ensures c.put_flow_records-w.ensures

pub put_pdus-overflow_cast-w : goal.put_pdus-overflow_cast-w
put_pdus-overflow_cast-w t c = pdu_length32 _ _ _ _ _ _ _ _ c.loop-i.invariant.ready (omega (arith, c.loop-i-test.true)) c.be32-records.ensures c.index_at.ensures c.put_flow_records-w.ensures

pub put_pdus-overflow_cast-cur : goal.put_pdus-overflow_cast-cur
put_pdus-overflow_cast-cur t c = pdu_first32 _ _ _ _ _ _ _ _ c.loop-i.invariant.ready (omega (arith, c.loop-i-test.true))

pub put_pdus-put-requires : goal.put_pdus-put-requires
put_pdus-put-requires t c = pdu_own _ _ _ _ _ _ _ _ c.loop-i.invariant.ready (omega (arith, c.loop-i-test.true)) c.be32-records.ensures c.index_at.ensures c.put_flow_records-w.ensures

pub put_pdus-loop-i-preserved : goal.put_pdus-loop-i-preserved
put_pdus-loop-i-preserved t c = left_next c.loop-i.invariant c.loop-i-test.true (pdu_placed _ _ _ _ _ _ _ _ c.loop-i.invariant.ready (omega (arith, c.loop-i-test.true)) c.be32-records.ensures c.index_at.ensures c.put_flow_records-w.ensures c.put.ensures)

pub put_pdus-returns : goal.put_pdus-returns
put_pdus-returns t c = data_filled _ _ _ _ _ _ c.requires.ready c.requires.at_in_bounds c.be32-n.ensures c.index_at-parent.ensures (left_done c.loop-i.invariant c.loop-i-test.false)
