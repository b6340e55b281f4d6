-- What each exported call's own contract says of its result: what settles it, and with a lent store every word of that afterwards. A theorem
-- cites what a caller learns (`Learnt`, which the check makes of the call's `ensures`), so that a weaker `ensures` is refused here. `s` is
-- a reference to the input, `w` one to a descriptor's words, `store` one to the store, which is at its last value at the exit, and `e` a
-- parameter at the exit, or all of them. Assumes nothing.
use Prim.Native.Nat.{ℕ}
use mathlib.Core.List.{List}
use lib.ListN.{get_or}
use denote.Ref.{at_last}
use Rattle.reading.specs.Layout.{memo}
use Rattle.reading.specs.Answer.{one, run, payload_span_of, whole_span_of, list_word_of, segment_at}
use Rattle.xdr.specs.Shown.{span, answer_of}
use Rattle.xdr.proofs.Settles.{Settles, settled}
use Rattle.xdr.proofs.Lossless.{span_lossless}
use Rattle.layout.specs.Shown.{a_segment}
use Rattle.datagram.specs.declared.decode.Answer.{Answer}
use Rattle.datagram.specs.declared.decode.Decoded.{Decoded}
use Rattle.datagram.specs.Shown.{decoded, ran}
use Rattle.datagram.proofs.Lossless.{decoded_lossless, ran_lossless}
use Rattle.fields.specs.Shown.{listed}
use Rattle.fields.proofs.Lossless.{listed_lossless, segment_lossless}
use Rattle.host.proofs as call

-- ---- datagrams

module _ (κs s store : _) where
  pub decode_settled : Settles
      (λ (r : Decoded × List ℕ) e. call.latchplume_decode.Reads.Learnt κs (s, (store, tt)) r.0 (e, (at_last store r.1, tt)))
      (λ r. decoded r.0 r.1)
      (one memo s.now store.now)
  decode_settled = settled decoded_lossless

  pub decode_run_settled : Settles
      (λ (r : Answer × List ℕ) e. call.latchplume_decode_run.Reads.Learnt κs (s, (store, tt)) r.0 (e, (at_last store r.1, tt)))
      (λ r. ran r.0 r.1)
      (run memo s.now store.now)
  decode_run_settled = settled ran_lossless

-- ---- what they lead to

module _ (κs s : _) where
  pub payload_settled : (w : _) → Settles (call.payload.latchplume_payload.Reads.Learnt κs (s, (w, tt))) span (payload_span_of s.now (get_or w.now 2 0) (get_or w.now 3 0))
  payload_settled w = settled span_lossless

  pub whole_settled : (w : _) → Settles (call.payload.latchplume_whole.Reads.Learnt κs (s, (w, tt))) span (whole_span_of s.now (get_or w.now 2 0) (get_or w.now 3 0) (get_or w.now 6 0))
  whole_settled w = settled span_lossless

  pub list_word_settled : (start count index : _) → Settles (call.lists.latchplume_list_word.Reads.Learnt κs (s, (start, (count, (index, tt))))) listed (list_word_of s.now start count index)
  list_word_settled start count index = settled listed_lossless

  pub next_segment_settled : (at : _) → Settles (call.lists.latchplume_next_segment.Reads.Learnt κs (s, (at, tt))) (λ r. answer_of r.outcome (a_segment r.fields)) (segment_at s.now at)
  next_segment_settled at = settled segment_lossless
