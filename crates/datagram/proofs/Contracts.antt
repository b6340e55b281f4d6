-- What each public call's own contract says of its result: what settles it, and with a lent store every word of that afterwards. A theorem
-- cites what a caller learns (`Learnt`, which the check makes of the call's `ensures`), so that a weaker `ensures` is refused here. `s` is
-- a reference to the input, `store` one to the store, which is at its last value at the exit, and `e` a parameter at the exit, or all of
-- them. Assumes nothing.
use Rattle.std.proofs.Common.{ℕ, ◌≡◌, List}
use denote.Ref.{at_last}
use Rattle.reading.specs.Cursor.{follow}
use Rattle.reading.specs.Script.{number}
use Rattle.reading.specs.Layout.{memo, base as base_mode, datagram, header, version}
use Rattle.reading.specs.Values.{zeros}
use Rattle.reading.specs.Answer.{from, one, run}
use Rattle.reading.proofs.Counts.{counted}
use Rattle.reading.proofs.Fields.{field_out, fields_out}
use Rattle.xdr.specs.Shown.{code_of, place, read_out}
use Rattle.xdr.proofs.Settles.{Settles, settled}
use Rattle.xdr.proofs.Lossless.{word_lossless}
use Rattle.layout.specs.Shown.{mode_of, scanned_out}
use Rattle.store.specs.declared.Written.{Written}
use Rattle.store.specs.Written.{written, placed}
use Rattle.datagram.specs.declared.decode.Answer.{Answer}
use Rattle.datagram.specs.declared.decode.Decoded.{Decoded}
use Rattle.datagram.specs.Shown.{Heads, decoded, header_fields, ran, root}
use Rattle.datagram.proofs.Lossless.{decoded_lossless, header_lossless, ran_lossless, scanned_lossless, written_lossless}
use Rattle.datagram.proofs as call

module _ (κs s store mode : _) where
  pub decode_settled : Settles
      (λ (r : Decoded × List ℕ) e. call.decode.decode.Reads.Learnt κs (s, (store, (mode, tt))) r.0 (e, (at_last store r.1, (mode, tt))))
      (λ r. decoded r.0 r.1)
      (one (mode_of mode) s.now store.now)
  decode_settled = settled decoded_lossless

  pub decode_run_settled : Settles
      (λ (r : Answer × List ℕ) e. call.run.decode_run.Reads.Learnt κs (s, (store, (mode, tt))) r.0 (e, (at_last store r.1, (mode, tt))))
      (λ r. ran r.0 r.1)
      (run (mode_of mode) s.now store.now)
  decode_run_settled = settled ran_lossless

-- ---- what they call

pub read_settled : (κs c s mode : _) → Settles (call.header.HeaderRecord.read.Reads.Learnt κs (c, (s, (mode, tt)))) (read_out header_fields) (fields_out header s.now (place c))
read_settled κs c s mode = settled header_lossless

pub zero_settled : (κs r e : _) → call.header.HeaderRecord.zero.Reads.Learnt κs tt r e → header_fields r ≡ zeros header
zero_settled κs r e h = h memo

pub version_at_settled : (κs c s : _) → Settles (call.header.version_at.Reads.Learnt κs (c, (s, tt))) (read_out number) (field_out version s.now (place c))
version_at_settled κs c s = settled word_lossless

pub row_says : (κs c s r e : _) → call.header.row.Reads.Learnt κs (c, (s, tt)) r e → Heads s.now c r
row_says κs c s r e h = h

pub from_settled : (κs x r e : _) → call.decode.AnswerFromRefusal.from.Reads.Learnt κs (x, tt) r e → r ≡ record { code = code_of x.reason; at = x.at; steps = x.steps; needed = 0 }
from_settled κs x r e h = h

pub no_room_settled : (κs end needed r e : _) → call.decode.Answer.no_room.Reads.Learnt κs (end, (needed, tt)) r e → r ≡ record { code = 9; at = 0; steps = end.steps; needed = needed }
no_room_settled κs end needed r e h = h

pub scan_datagram_settled : (κs s c mode count : _) → Settles (call.one.scan_datagram.Reads.Learnt κs (s, (c, (mode, (count, tt))))) scanned_out (counted count (follow (datagram (mode_of mode)) s.now (place c)))
scan_datagram_settled κs s c mode count = settled scanned_lossless

pub put_datagram_settled : (κs s at store base : _) → Settles
    (λ (r : Written × List ℕ) e. call.one.put_datagram.Reads.Learnt κs (s, (at, (store, (base, tt)))) r.0 (e, (at, (at_last store r.1, (base, tt)))))
    (λ r. written r.0 r.1)
    (placed (root base) (follow (datagram base_mode) s.now (from at)) store.now)
put_datagram_settled κs s at store base = settled written_lossless
