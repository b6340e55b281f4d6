-- What this crate's cursor and answers are in terms of the reading. Assumes nothing.
use Rattle.std.specs.Prelude.{ℕ, ◌+◌, ◌≤◌, ◌≡◌, cond, List, eqb, length, Result, Ok, Err}
use Rattle.reading.specs.Script as script
use Rattle.reading.specs.Script.{Value, part, address, bare}
use Rattle.reading.specs.Cursor.{Place, Out, got, stop}
use Rattle.reading.specs.Layout.{Field}
use Rattle.reading.specs.Values.{Reading, valued, reading}
use Rattle.reading.specs.Answer.{Fields, answered}
use Rattle.xdr.specs.declared.Cursor.{Cursor}
use Rattle.xdr.specs.declared.Span.{Span}
use Rattle.xdr.specs.declared.Reason.{Reason}
use Rattle.xdr.specs.declared.Reason.TheVariants.{InputTooLong, Cut, Version, AddressType, OpaqueTooLong, HeaderProtocol, IllFormed, TooDeep, NoRoom, OutsideInput, OtherFormat}
use Rattle.xdr.specs.declared.Refusal.{Refusal}
use Rattle.xdr.specs.declared.Outcome.{Outcome}
use Rattle.xdr.specs.declared.Address.{Address}

abbrev pub place : Cursor → Place
place c = record { at = c.at; steps = c.steps }

-- a cursor that a reading can have come to: inside the input, and no more items than bytes
pub record Inside (s : List ℕ) (c : Cursor) : Type 0 where
  pub inside : c.at ≤ length s
  pub counted : c.steps ≤ c.at

-- the code of a reason (docs/RULES.md, 5)
abbrev pub code_of : Reason → ℕ
code_of InputTooLong = 1
code_of Cut = 2
code_of Version = 3
code_of AddressType = 4
code_of OpaqueTooLong = 5
code_of HeaderProtocol = 6
code_of IllFormed = 7
code_of TooDeep = 8
code_of NoRoom = 9
code_of OutsideInput = 10
code_of OtherFormat = 11

abbrev pub refused : Reason → Cursor → Refusal
refused reason c = record { reason = reason; at = c.at; steps = c.steps }

-- the string here goes bad at `at`
abbrev pub ill_formed_of : (at : ℕ) → Cursor → Refusal
ill_formed_of at c = record { reason = IllFormed; at = at; steps = c.steps }

-- a reading that ends here, in plain numbers
abbrev pub ended_by : (code : ℕ) → Cursor → Outcome
ended_by code c = record { code = code; at = c.at; steps = c.steps }

abbrev pub accepted : Cursor → Outcome
accepted c = record { code = 0; at = c.at; steps = c.steps }

-- a refusal in plain numbers
abbrev pub ended : Refusal → Outcome
ended x = record { code = code_of x.reason; at = x.at; steps = x.steps }

-- what is read on from
abbrev pub passed_of : Outcome → Result Cursor Outcome
passed_of o = cond (eqb o.code 0) (Ok (record { at = o.at; steps = o.steps })) (Err o)

abbrev pub behind : ℕ → Cursor → Cursor
behind n c = record { at = c.at + n; steps = c.steps + 1 }

-- here, with the steps of what was read inside of what ends here
abbrev pub resumed : Cursor → Cursor → Cursor
resumed c inner = record { at = c.at; steps = inner.steps }

abbrev pub span : Span → script.Span
span x = record { start = x.start; count = x.count }

abbrev pub a_part : Span → Value
a_part x = part (span x)

abbrev pub an_address : Address → Value
an_address a = address a.kind a.bytes

abbrev pub refusal : {A : Type 0} → Refusal → Out A
refusal x = stop (code_of x.reason) x.at x.steps

-- what was read, and the cursor behind it; or a refusal
abbrev pub Read : Type 0 → Type 0
Read A = Result (A × Cursor) Refusal

-- what was read, as `shown` has it, and the place behind it
abbrev pub read_out : {A B : Type 0} → (shown : A → B) → Read A → Out B
read_out shown (Ok r) = got (shown r.0) (place r.1)
read_out shown (Err x) = refusal x

abbrev pub Passed : Type 0
Passed = Result Cursor Refusal

abbrev pub passed_out : {A : Type 0} → Passed → A → Out A
passed_out (Ok c) a = got a (place c)
passed_out (Err x) a = refusal x

-- read on from p: a refusal is handed on
abbrev pub passed_on : {A : Type 0} → (Place → Out A) → Passed → Out A
passed_on read (Ok c) = read (place c)
passed_on read (Err x) = refusal x

-- the layout l, read on from p: a refusal is handed on
abbrev pub read_on : List Field → List ℕ → Passed → Reading
read_on l s (Ok c) = reading l s (place c)
read_on l s (Err x) = valued l (refusal x)

-- ---- behind an outcome in plain numbers, of any code

abbrev pub ending : {A : Type 0} → Outcome → Out A
ending o = stop o.code o.at o.steps

-- what was read, as `shown` has it, and the place behind it; or the outcome
abbrev pub after_out : {A B : Type 0} → (shown : A → B) → Result (A × Cursor) Outcome → Out B
after_out shown (Ok r) = got (shown r.0) (place r.1)
after_out shown (Err o) = ending o

-- read on from p: an outcome is handed on
abbrev pub after_on : {A : Type 0} → (Place → Out A) → Result Cursor Outcome → Out A
after_on read (Ok c) = read (place c)
after_on read (Err o) = ending o

-- the layout l, read on from p: an outcome is handed on
abbrev pub read_after : List Field → List ℕ → Result Cursor Outcome → Reading
read_after l s (Ok c) = reading l s (place c)
read_after l s (Err o) = valued l (ending o)

-- an outcome with values beside it, as field reading answers them
abbrev pub answer_of : Outcome → List Value → Fields
answer_of o vs = record { code = o.code; at = o.at; steps = o.steps; values = vs }

-- the layout l, read on from p, answers so
pub record Answers (l : List Field) (s : List ℕ) (p : Passed) (o : Outcome) (vs : List Value) : Type 0 where
  pub is : answer_of o vs ≡ answered (read_on l s p)

-- the layout l, read on from an outcome p of any code, answers so
pub record AnswersAfter (l : List Field) (s : List ℕ) (p : Result Cursor Outcome) (o : Outcome) (vs : List Value) : Type 0 where
  pub is : answer_of o vs ≡ answered (read_after l s p)
