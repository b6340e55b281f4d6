-- What is shown of a result loses nothing: an item's answer, a span, an address and a refusal are got back from it. Assumes nothing.
use Rattle.std.proofs.Common.{ℕ, ◌≡◌, refl, ap, List, [], ◌∷◌, get_or, ℤ, pos, Ok, Err}
use Rattle.reading.specs.Script as script
use Rattle.reading.specs.Script.{Value, number, integer, octets, address, part, nothing, Found}
use Rattle.reading.specs.Cursor.{Place, Out, got, stop}
use Rattle.reading.specs.Layout.{num, oct}
use Rattle.reading.specs.Answer.{Fields, kind_of, no_span}
use Rattle.xdr.specs.declared.Address.{Address}
use Rattle.xdr.specs.declared.Cursor.{Cursor}
use Rattle.xdr.specs.declared.Outcome.{Outcome}
use Rattle.xdr.specs.declared.Reason.{Reason}
use Rattle.xdr.specs.declared.Reason.TheVariants.{InputTooLong, Cut, Version, AddressType, OpaqueTooLong, HeaderProtocol, IllFormed, TooDeep, NoRoom, OutsideInput, OtherFormat}
use Rattle.xdr.specs.declared.Refusal.{Refusal}
use Rattle.xdr.specs.declared.Span.{Span}
use Rattle.xdr.specs.Shown.{Passed, Read, a_part, an_address, code_of, ended, passed_out, read_out, span}
use Rattle.xdr.proofs.Settles.{Lossless, got_back}

-- ---- a value, taken back

abbrev span_back : script.Span → Span
span_back x = record { start = x.start; count = x.count }

abbrev range_of : Value → Span
range_of (number n) = span_back no_span
range_of (integer z) = span_back no_span
range_of (octets b) = span_back no_span
range_of (address t b) = span_back no_span
range_of (part x) = span_back x

abbrev integer_of : Value → ℤ
integer_of (number n) = pos 0
integer_of (integer z) = z
integer_of (octets b) = pos 0
integer_of (address t b) = pos 0
integer_of (part x) = pos 0

abbrev pub address_of : Value → Address
address_of v = record { kind = kind_of v; bytes = oct v }

pub span_lossless : Lossless span
span_lossless = got_back span_back (λ x. refl)

pub part_lossless : Lossless a_part
part_lossless = got_back range_of (λ x. refl)

pub address_lossless : Lossless an_address
address_lossless = got_back address_of (λ x. refl)

pub number_lossless : Lossless number
number_lossless = got_back num (λ x. refl)

pub integer_lossless : Lossless integer
integer_lossless = got_back integer_of (λ x. refl)

pub octets_lossless : Lossless octets
octets_lossless = got_back oct (λ x. refl)

-- ---- what field reading answers, taken back: the outcome, and a field from the value with this index

abbrev pub outcome_of : Fields → Outcome
outcome_of x = record { code = x.code; at = x.at; steps = x.steps }

abbrev value_at : Fields → ℕ → Value
value_at x i = get_or x.values i (number 0)

abbrev pub word_at : Fields → ℕ → ℕ
word_at x i = num (value_at x i)

abbrev pub bytes_at : Fields → ℕ → List ℕ
bytes_at x i = oct (value_at x i)

abbrev pub address_at : Fields → ℕ → Address
address_at x i = address_of (value_at x i)

abbrev pub range_at : Fields → ℕ → Span
range_at x i = range_of (value_at x i)

-- ---- a refusal, from its numbers

-- the reason with this code
abbrev reason_of : ℕ → Reason
reason_of c = get_or (Cut ∷ InputTooLong ∷ Cut ∷ Version ∷ AddressType ∷ OpaqueTooLong ∷ HeaderProtocol ∷ IllFormed ∷ TooDeep ∷ NoRoom ∷ OutsideInput ∷ OtherFormat ∷ []) c Cut

reason_same : (r : Reason) → reason_of (code_of r) ≡ r
reason_same InputTooLong = refl
reason_same Cut = refl
reason_same Version = refl
reason_same AddressType = refl
reason_same OpaqueTooLong = refl
reason_same HeaderProtocol = refl
reason_same IllFormed = refl
reason_same TooDeep = refl
reason_same NoRoom = refl
reason_same OutsideInput = refl
reason_same OtherFormat = refl

pub reason_lossless : Lossless code_of
reason_lossless = got_back reason_of reason_same

abbrev refusal_back : (code at steps : ℕ) → Refusal
refusal_back c a n = record { reason = reason_of c; at = a; steps = n }

refusal_same : (x : Refusal) → refusal_back (code_of x.reason) x.at x.steps ≡ x
refusal_same x = ap (λ (r : Reason). record { reason = r; at = x.at; steps = x.steps }) (reason_same x.reason)

pub refusal_lossless : Lossless ended
refusal_lossless = got_back (λ (o : Outcome). refusal_back o.code o.at o.steps) refusal_same

-- ---- an item's answer, whose value is got back from what is shown of it

abbrev cursor_at : Place → Cursor
cursor_at p = record { at = p.at; steps = p.steps }

module _ {A B : Type 0} (shown : A → B) (back : B → A) (same : (a : A) → back (shown a) ≡ a) where
  abbrev read_back : Out B → Read A
  read_back (got b p) = Ok (back b, cursor_at p)
  read_back (stop c a n) = Err (refusal_back c a n)

  pub read_lossless : Lossless (read_out shown)
  read_lossless = got_back read_back again
    where
      again : (r : Read A) → read_back (read_out shown r) ≡ r
      again (Ok r) = ap (λ (a : A). Ok (a, r.1)) (same r.0)
      again (Err x) = ap (λ (y : Refusal). Err y) (refusal_same x)

pub word_lossless : Lossless (read_out number)
word_lossless = read_lossless number num (λ x. refl)

pub int_lossless : Lossless (read_out integer)
int_lossless = read_lossless integer integer_of (λ x. refl)

pub part_read_lossless : Lossless (read_out a_part)
part_read_lossless = read_lossless a_part range_of (λ x. refl)

pub address_read_lossless : Lossless (read_out an_address)
address_read_lossless = read_lossless an_address address_of (λ x. refl)

pub block_lossless : Lossless (read_out octets)
block_lossless = read_lossless octets oct (λ x. refl)

abbrev passed_back : Out Found → Passed
passed_back (got a p) = Ok (cursor_at p)
passed_back (stop c a n) = Err (refusal_back c a n)

pub passed_lossless : Lossless (λ r. passed_out r nothing)
passed_lossless = got_back passed_back same
  where
    same : (r : Passed) → passed_back (passed_out r nothing) ≡ r
    same (Ok c) = refl
    same (Err x) = ap (λ (y : Refusal). Err y) (refusal_same x)
