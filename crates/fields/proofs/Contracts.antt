-- What each public call's own contract says of its result: the result itself, or what settles it. A theorem cites what a caller learns
-- (`Learnt`, which the check makes of the call's `ensures`), so that a weaker `ensures` is refused here. `s` is a reference to the input,
-- `w` one to a descriptor's words, and `e` the parameters at the exit. Assumes nothing.
use mathlib.Core.Path.{◌≡◌}
use lib.ListN.{get_or}
use Rattle.reading.specs.Answer.{payload_span_of, whole_span_of, payload, list_word_of, segment_at}
use Rattle.xdr.specs.Shown.{span, answer_of}
use Rattle.xdr.proofs.Settles.{Settles, settled}
use Rattle.xdr.proofs.Lossless.{span_lossless}
use Rattle.layout.specs.Shown.{a_segment, mode_of}
use Rattle.fields.specs.Shown.{a_word, Asks, listed, read_at, unread, unread_by}
use Rattle.fields.proofs.Lossless.{listed_lossless, word_lossless, segment_lossless}
use Rattle.fields.proofs as call

-- ---- what field readings lead to

module _ (κs s : _) where
  pub payload_span_settled : (w : _) → Settles (call.payload.payload_span.Reads.Learnt κs (s, (w, tt))) span (payload_span_of s.now (get_or w.now 2 0) (get_or w.now 3 0))
  payload_span_settled w = settled span_lossless

  pub whole_span_settled : (w : _) → Settles (call.payload.whole_span.Reads.Learnt κs (s, (w, tt))) span (whole_span_of s.now (get_or w.now 2 0) (get_or w.now 3 0) (get_or w.now 6 0))
  whole_span_settled w = settled span_lossless

  -- the bytes handed back: where they lie is `payload_span`'s answer
  pub payload_settled : (w r e : _) → call.payload.payload.Reads.Learnt κs (s, (w, tt)) r e → r.now ≡ payload s.now (get_or w.now 2 0) (get_or w.now 3 0)
  payload_settled w r e h = h

  pub list_word_settled : (list index : _) → Settles (call.lists.list_word.Reads.Learnt κs (s, (list, (index, tt)))) a_word (list_word_of s.now list.start list.count index)
  list_word_settled list index = settled word_lossless

  pub word_of_settled : (list index : _) → Settles (call.lists.word_of.Reads.Learnt κs (s, (list, (index, tt)))) listed (list_word_of s.now list.start list.count index)
  word_of_settled list index = settled listed_lossless

  pub next_segment_settled : (at : _) → Settles (call.lists.next_segment.Reads.Learnt κs (s, (at, tt))) (λ r. answer_of r.outcome (a_segment r.fields)) (segment_at s.now at)
  next_segment_settled at = settled segment_lossless

pub listed_settled : (κs word : _) → Settles (call.lists.ListedFromOptionU32.from.Reads.Learnt κs (word, tt)) listed (a_word word)
listed_settled κs word = settled listed_lossless

-- ---- what comes before them, and the reading of a record

pub unread_settled : (κs reason r e : _) → call.ask.unread.Reads.Learnt κs (reason, tt) r e → r ≡ unread reason
unread_settled κs reason r e h = h

pub unread_by_settled : (κs code r e : _) → call.ask.unread_by.Reads.Learnt κs (code, tt) r e → r ≡ unread_by code
unread_by_settled κs code r e h = h

pub ask_says : (κs s w kind format r e : _) → call.ask.ask.Reads.Learnt κs (s, (w, (kind, (format, tt)))) r e → Asks kind format s.now w.now r
ask_says κs s w kind format r e h = h

-- of a record T, whose ghost members are g
pub read_says : (T laws copied g dict clones copies κs s w kind format mode r e : _) → call.ask.read.Reads.Learnt T laws copied g dict clones copies κs (s, (w, (kind, (format, (mode, tt))))) r e
    → answer_of r.outcome (g.values r.fields) ≡ read_at (mode_of mode) kind format s.now w.now
read_says T laws copied g dict clones copies κs s w kind format mode r e h = h

pub descriptor_settled : (κs w r e : _) → call.descriptor.descriptor.Reads.Learnt κs (w, tt) r e → r ≡ record { kind = get_or w.now 0 0; format = record { 0 = get_or w.now 1 0 }; start = get_or w.now 2 0; length = get_or w.now 3 0; parent = get_or w.now 4 0; depth = get_or w.now 5 0; first = get_or w.now 6 0 }
descriptor_settled κs w r e h i = record { kind = h.kind i; format = record { 0 = h.format i }; start = h.start i; length = h.extent i; parent = h.parent i; depth = h.depth i; first = h.first i }
