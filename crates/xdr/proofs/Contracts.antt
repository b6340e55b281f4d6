-- What each public call's own contract says of its result: the result itself, or what settles it. A theorem cites what a caller learns
-- (`Learnt`, which the check makes of the call's `ensures`), so that a weaker `ensures` is refused here. `s` is a reference to the input,
-- and `e` the parameters at the exit. Assumes nothing.
use Rattle.std.proofs.Common.{◌≡◌, take, drop}
use Rattle.reading.specs.Script.{number, integer, octets, word, long, int, opaque, string, nothing}
use Rattle.reading.specs.Cursor.{fixed, read_item, times, follow}
use Rattle.reading.specs.Layout.{addr, any_word}
use Rattle.reading.proofs.Fields.{field_out}
use Rattle.xdr.specs.Shown.{a_part, accepted, an_address, behind, code_of, ended, ended_by, ill_formed_of, passed_of, passed_out, place, read_out, refused, resumed}
use Rattle.xdr.proofs.Settles.{Settles, settled}
use Rattle.xdr.proofs.Lossless.{address_read_lossless, block_lossless, int_lossless, part_read_lossless, passed_lossless, word_lossless}
use Rattle.xdr.proofs as call

-- ---- the items

module _ (κs self s : _) where
  pub read_u32_settled : Settles (call.Cursor.read_u32.Reads.Learnt κs (self, (s, tt))) (read_out number) (read_item word s.now (place self))
  read_u32_settled = settled word_lossless

  pub read_u64_settled : Settles (call.Cursor.read_u64.Reads.Learnt κs (self, (s, tt))) (read_out number) (read_item long s.now (place self))
  read_u64_settled = settled word_lossless

  pub read_i32_settled : Settles (call.Cursor.read_i32.Reads.Learnt κs (self, (s, tt))) (read_out integer) (read_item int s.now (place self))
  read_i32_settled = settled int_lossless

  pub read_opaque_settled : Settles (call.Cursor.read_opaque.Reads.Learnt κs (self, (s, tt))) (read_out a_part) (read_item opaque s.now (place self))
  read_opaque_settled = settled part_read_lossless

  pub read_string_settled : Settles (call.Cursor.read_string.Reads.Learnt κs (self, (s, tt))) (read_out a_part) (read_item string s.now (place self))
  read_string_settled = settled part_read_lossless

  pub parse_address_settled : Settles (call.Cursor.parse_address.Reads.Learnt κs (self, (s, tt))) (read_out an_address) (field_out addr s.now (place self))
  parse_address_settled = settled address_read_lossless

  pub skip_settled : (n : _) → Settles (call.Cursor.skip.Reads.Learnt κs (self, (s, (n, tt)))) (λ r. passed_out r nothing) (fixed n nothing s.now (place self))
  skip_settled n = settled passed_lossless

  pub read_words_settled : (n : _) → Settles (call.Cursor.read_words.Reads.Learnt κs (self, (s, (n, tt)))) (λ r. passed_out r nothing) (times n (follow any_word) s.now (place self))
  read_words_settled n = settled passed_lossless

pub pass_fixed_settled : (n fits κs self s : _) → Settles (call.Cursor.pass_fixed.Reads.Learnt n fits κs (self, (s, tt))) (λ r. passed_out r nothing) (fixed n nothing s.now (place self))
pass_fixed_settled n fits κs self s = settled passed_lossless

pub read_fixed_settled : (n fits κs self s : _) → Settles (call.Cursor.read_fixed.Reads.Learnt n fits κs (self, (s, tt))) (read_out octets) (fixed n (octets (take n (drop self.at s.now))) s.now (place self))
read_fixed_settled n fits κs self s = settled block_lossless

-- ---- cursors and outcomes

module _ (κs self : _) where
  pub refusal_settled : (reason r e : _) → call.Cursor.refusal.Reads.Learnt κs (self, (reason, tt)) r e → r ≡ refused reason self
  refusal_settled reason r e h = h

  pub ill_formed_settled : (at r e : _) → call.Cursor.ill_formed.Reads.Learnt κs (self, (at, tt)) r e → r ≡ ill_formed_of at self
  ill_formed_settled at r e h = h

  pub ended_by_settled : (code r e : _) → call.Cursor.ended_by.Reads.Learnt κs (self, (code, tt)) r e → r ≡ ended_by code self
  ended_by_settled code r e h = h

  pub accepted_settled : (r e : _) → call.Cursor.accepted.Reads.Learnt κs (self, tt) r e → r ≡ accepted self
  accepted_settled r e h = h

  pub with_steps_settled : (inner r e : _) → call.Cursor.with_steps.Reads.Learnt κs (self, (inner, tt)) r e → r ≡ resumed self inner
  with_steps_settled inner r e h = h

  pub past_settled : (n r e : _) → call.Cursor.past.Reads.Learnt κs (self, (n, tt)) r e → r ≡ behind n self
  past_settled n r e h = h

pub code_settled : (κs self r e : _) → call.Reason.code.Reads.Learnt κs (self, tt) r e → r ≡ code_of self
code_settled κs self r e h = h

pub from_settled : (κs x r e : _) → call.OutcomeFromRefusal.from.Reads.Learnt κs (x, tt) r e → r ≡ ended x
from_settled κs x r e h = h

pub passed_settled : (κs self r e : _) → call.Outcome.passed.Reads.Learnt κs (self, tt) r e → r ≡ passed_of self
passed_settled κs self r e h = h
