-- What the field readers ask and answer, in terms of the reading. Assumes nothing.
use Rattle.std.specs.Prelude.{ℕ, ◌≤◌, ◌≡◌, true, false, List, length, take, get_or, Option, Some, None, Result, Ok, Err, IfOk}
use Rattle.reading.specs.Answer as answer
use Rattle.reading.specs.Layout.{Field, Mode}
use Rattle.reading.specs.Values.{Reading}
use Rattle.reading.specs.Answer.{Fields, answered, layout_of, read, segment_fields, segment_at}
use Rattle.xdr.specs.declared.Cursor.{Cursor}
use Rattle.xdr.specs.declared.Reason.{Reason}
use Rattle.xdr.specs.declared.Refusal.{Refusal}
use Rattle.xdr.specs.declared.Outcome.{Outcome}
use Rattle.xdr.specs.Shown.{Inside, Passed, read_on}
use Rattle.store.specs.declared.Descriptor.{Descriptor}
use Rattle.fields.specs.declared.lists.Listed.{Listed}

-- a descriptor has these words
pub record HasWords (w : List ℕ) (d : Descriptor) : Type 0 where
  pub kind : d.kind ≡ get_or w 0 0
  pub format : d.format.0 ≡ get_or w 1 0
  pub start : d.start ≡ get_or w 2 0
  pub extent : d.length ≡ get_or w 3 0
  pub parent : d.parent ≡ get_or w 4 0
  pub depth : d.depth ≡ get_or w 5 0
  pub first : d.first ≡ get_or w 6 0

-- the fields of this kind and format, of a descriptor's words
abbrev pub read_at : Mode → (kind format : ℕ) → List ℕ → List ℕ → Fields
read_at mode k f s w = read mode k f s (get_or w 0 0) (get_or w 1 0) (get_or w 2 0) (get_or w 3 0)

abbrev pub unread : Reason → Refusal
unread reason = record { reason = reason; at = 0; steps = 0 }

abbrev pub unread_by : (code : ℕ) → Outcome
unread_by code = record { code = code; at = 0; steps = 0 }

-- where to read from, and where the range ends; or a refusal
abbrev pub Asked : Type 0
Asked = Result (Cursor × ℕ) Refusal

-- a layout, read from where was asked and held to the range: a refusal is handed on
abbrev pub asked_on : List Field → List ℕ → Asked → Reading
asked_on l s (Ok r) = read_on l (take r.1 s) (Ok r.0)
asked_on l s (Err x) = read_on l s (Err x)

-- the layout, read on from here and held to the range, is what the field reading answers, in each mode
pub record Asks (kind format : ℕ) (s w : List ℕ) (r : Asked) : Type 0 where
  pub inside : IfOk r (λ a. a.1 ≤ length s)
  pub within : IfOk r (λ a. Inside (take a.1 s) a.0)
  pub is : (mode : Mode) → answered (asked_on (layout_of mode kind format) s r) ≡ read_at mode kind format s w

-- a segment, read on from here, is the one at this position
pub record Begins (s : List ℕ) (at : ℕ) (p : Passed) : Type 0 where
  pub within : IfOk p (λ c. Inside s c)
  pub is : answered (read_on segment_fields s p) ≡ segment_at s at

abbrev pub listed : Listed → answer.Listed
listed r = record { present = r.present; value = r.value }

-- a word of a list, if there is one
abbrev pub a_word : Option ℕ → answer.Listed
a_word (Some v) = record { present = true; value = v }
a_word None = record { present = false; value = 0 }
