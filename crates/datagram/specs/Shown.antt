-- What this crate's answers are in terms of the reading. Assumes nothing.
use Rattle.std.specs.Prelude.{ℕ, ◌+◌, ◌≤◌, ◌≡◌, List, [], ◌∷◌, length, IfOk}
use Rattle.reading.specs.Script.{Value, number, Found}
use Rattle.reading.specs.Cursor.{Out, Reader, got, stop, then, follow}
use Rattle.reading.specs.Layout.{base as base_mode, datagram, version, addr, words}
use Rattle.reading.specs.Answer as answer
use Rattle.reading.specs.Answer.{from, nobody, header_of, no_header, refused}
use Rattle.reading.proofs.Counts.{counted}
use Rattle.reading.proofs.Fields.{fields_out}
use Rattle.xdr.specs.declared.Cursor.{Cursor}
use Rattle.reading.proofs.Words.{numbers}
use Rattle.xdr.specs.Shown.{Read, an_address, place, read_out}
use Rattle.store.specs.declared.Pen.{Pen}
use Rattle.datagram.specs.declared.decode.Answer.{Answer}
use Rattle.datagram.specs.declared.decode.Decoded.{Decoded}
use Rattle.datagram.specs.declared.header.Header.{Header}

abbrev pub header_fields : Header → List Value
header_fields r =
    number r.version ∷ an_address r.agent_address ∷ number r.sub_agent_id ∷ number r.sequence_number ∷ number r.uptime
    ∷ number r.num_samples ∷ []

-- the header, passed, and then the values of its four words
abbrev pub heads : Reader (List Value)
heads s p = then (fields_out (version ∷ addr ∷ []) s p) (λ vs q. fields_out (words 4) s q)

-- the header is passed so, and its words lie in the input where it was
pub record Heads (s : List ℕ) (c : Cursor) (r : Read ℕ) : Type 0 where
  pub words : read_out (numbers 4 s) r ≡ heads s (place c)
  pub there : IfOk r (λ x. x.0 + 16 ≤ length s)

-- where a datagram's own descriptor goes: it has no parent
abbrev pub root : ℕ → Pen
root base = record { base = base; parent = nobody; word = 0 }

-- where the descriptors of a run's next datagram go: from a word on
abbrev pub pen_at : ℕ → Pen
pen_at w = record { base = 0; parent = nobody; word = w }

-- the answer to one datagram, with the store that it leaves
abbrev pub decoded : Decoded → List ℕ → answer.Answer
decoded r w = record {
  code = r.answer.code;
  at = r.answer.at;
  steps = r.answer.steps;
  needed = r.answer.needed;
  head = record {
    address_type = r.agent_address.kind;
    address = r.agent_address.bytes;
    sub_agent = r.sub_agent_id;
    sequence = r.sequence_number;
    uptime = r.uptime;
    sample_count = r.num_samples;
  };
  store = w;
}

-- a refusal: the header is all zero, and any store stays as it was
pub record Refuses (r : Decoded) (a : Answer) : Type 0 where
  pub leaves : (w : List ℕ) → decoded r w ≡ record { code = a.code; at = a.at; steps = a.steps; needed = a.needed; head = no_header; store = w }

-- a datagram that was read up to e, with k descriptors: what is read in any mode is read so in the base mode
pub record IsRead (s : List ℕ) (e : Cursor) (k : ℕ) : Type 0 where
  pub is : got k (place e) ≡ counted 0 (follow (datagram base_mode) s (from 0))

unfoldable pub values_of : Out Found → List Value
values_of (got a q) = a.values
values_of (stop c a n) = []

-- it is accepted, with any store
pub record Accepts (s : List ℕ) (r : Decoded) (e : Cursor) (k : ℕ) : Type 0 where
  pub leaves : (w : List ℕ) → decoded r w ≡ record { code = 0; at = e.at; steps = e.steps; needed = k; head = header_of (values_of (follow (datagram base_mode) s (from 0))); store = w }

-- the answer to a run, which has no header, with the store that it leaves
abbrev pub ran : Answer → List ℕ → answer.Answer
ran r w = record { code = r.code; at = r.at; steps = r.steps; needed = r.needed; head = no_header; store = w }
