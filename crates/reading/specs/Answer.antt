-- What the calls answer: one datagram, a run of them, the fields of a descriptor, and its payload. Assumes nothing.
use Rattle.std.specs.Prelude.{ℕ, zero, suc, ◌+◌, ◌*◌, ◌-◌, ◌/◌, Bool, true, false, cond, List, [], ◌∷◌, ◌++◌, length, take, drop, get_or, eqb, leb}
use Rattle.reading.specs.Bytes.{be4, padded}
use Rattle.reading.specs.Utf8.{◌&◌}
use Rattle.reading.specs.Script.{Span, Value, number, integer, octets, address, part, Range, Forest, bare, tree, ◌⊕◌, Found, nothing, give}
use Rattle.reading.specs.Cursor.{Place, Out, got, stop, Reader, then, follow}
use Rattle.reading.specs.Layout.{num, oct, Field, list, Row, words, fixed_rows, only, Mode, flows, counters, samples, header, datagram}
use Rattle.reading.specs.Sizes.{longest_input, depth_limit, descriptor_words}
use Rattle.reading.specs.Values.{zeros, Reading, valued, reading}

-- the one or the other, as the input is within the limit or beyond it
abbrev pub limited : {A : Type 0} → List ℕ → A → A → A
limited s within beyond = cond (leb (length s) longest_input) within beyond

abbrev pub from : ℕ → Place
from at = record { at = at; steps = 0 }

-- ---- descriptors

-- the parent of a datagram
abbrev pub nobody : ℕ
nobody = 4294967295

-- how many descriptors
unfoldable pub size : Forest → ℕ
size bare = 0
size (tree r inner after) = 1 + size inner + size after

-- the words of a range whose parent has index p
abbrev pub row_of : (p : ℕ) → Range → List ℕ
row_of p r = r.kind ∷ r.format ∷ r.span.start ∷ r.span.count ∷ p ∷ r.depth ∷ r.first ∷ []

-- the descriptors, parents first: i is the index of the first, p its parent's
unfoldable pub rows : (i p : ℕ) → Forest → List ℕ
rows i p bare = []
rows i p (tree r inner after) = row_of p r ++ (rows (i + 1) i inner ++ rows (i + 1 + size inner) p after)

-- how many descriptors a store holds
abbrev pub room : List ℕ → ℕ
room w = length w / descriptor_words

-- ---- one datagram

pub record Header : Type 0 where
  pub address_type : ℕ
  pub address : List ℕ
  pub sub_agent : ℕ
  pub sequence : ℕ
  pub uptime : ℕ
  pub sample_count : ℕ

abbrev pub kind_of : Value → ℕ
kind_of (number n) = 0
kind_of (integer z) = 0
kind_of (octets b) = 0
kind_of (address t b) = t
kind_of (part x) = 0

-- from the values of a datagram's fields, of which the first is the version
unfoldable pub header_of : List Value → Header
header_of vs = record {
  address_type = kind_of (get_or vs 1 (number 0));
  address = oct (get_or vs 1 (number 0));
  sub_agent = num (get_or vs 2 (number 0));
  sequence = num (get_or vs 3 (number 0));
  uptime = num (get_or vs 4 (number 0));
  sample_count = num (get_or vs 5 (number 0));
}

-- all zero
unfoldable pub no_header : Header
no_header = header_of (zeros header)

pub record Answer : Type 0 where
  pub code : ℕ
  pub at : ℕ
  pub steps : ℕ
  pub needed : ℕ
  pub head : Header
  pub store : List ℕ

-- a refusal: the header is all zero, and the store stays as it was
abbrev pub refused : (code at steps needed : ℕ) → List ℕ → Answer
refused c a n k w = record { code = c; at = a; steps = n; needed = k; head = no_header; store = w }

-- the answer to a reading: `head` of its values and its descriptors, if the store has room for them; the words after the last
-- descriptor stay as they were
unfoldable pub stored : (head : List Value → Header) → Out Found → List ℕ → Answer
stored head (got a p) w =
    cond (leb (size a.ranges) (room w))
    (record {
      code = 0;
      at = p.at;
      steps = p.steps;
      needed = size a.ranges;
      head = head a.values;
      store = rows 0 nobody a.ranges ++ drop (descriptor_words * size a.ranges) w;
    })
    (refused 9 0 p.steps (size a.ranges) w)
stored head (stop c a n) w = refused c a n 0 w

unfoldable pub one : Mode → (input store : List ℕ) → Answer
one mode s w = limited s (stored header_of (follow (datagram mode) s (from 0)) w) (refused 1 0 0 0 w)

-- ---- a run of datagrams

-- the code that ends a run, and does not refuse it
abbrev pub run_ender : ℕ
run_ender = 2

-- what a run makes of a datagram tried at p: `on` reads the rest of the run. A datagram that ends the run has no descriptors
unfoldable pub tried : Out Found → Place → (Place → Out Found) → Out Found
tried (got d q) p on = then (on q) (λ f e. got (only (d.ranges ⊕ f.ranges)) e)
tried (stop c a n) p on = cond (eqb c run_ender) (got nothing (record { at = p.at; steps = n })) (stop c a n)

-- datagrams up to the end of the input; `fuel` bounds their number
unfoldable pub datagrams : Mode → (fuel : ℕ) → Reader Found
datagrams mode zero s p = got nothing p
datagrams mode (suc fuel) s p =
    cond (leb (length s) p.at)
    (got nothing p)
    (tried (follow (datagram mode) s p) p (datagrams mode fuel s))

-- a run has no header: it shows as zero
unfoldable pub run : Mode → (input store : List ℕ) → Answer
run mode s w = limited s (stored (λ _. no_header) (datagrams mode (length s) s (from 0)) w) (refused 1 0 0 0 w)

-- ---- field reading

abbrev pub layout_at : List Row → ℕ → List Field
layout_at [] f = []
layout_at (r ∷ rest) f = cond (eqb r.format f) r.layout (layout_at rest f)

-- the fields of a descriptor of this kind and format: a datagram's header, a sample's fields before its records, a record's fields
unfoldable pub layout_of : Mode → (kind format : ℕ) → List Field
layout_of mode zero f = header
layout_of mode (suc zero) f = layout_at (samples mode depth_limit) f
layout_of mode (suc (suc zero)) f = layout_at (flows mode (give nothing)) f
layout_of mode (suc (suc (suc zero))) f = layout_at (fixed_rows counters) f
layout_of mode (suc (suc (suc (suc k)))) f = []

pub record Fields : Type 0 where
  pub code : ℕ
  pub at : ℕ
  pub steps : ℕ
  pub values : List Value

-- an outcome's numbers, with the values beside it
unfoldable pub answered : Reading → Fields
answered r = numbered r.out r.values
  where
    numbered : Out Found → List Value → Fields
    numbered (got a p) vs = record { code = 0; at = p.at; steps = p.steps; values = vs }
    numbered (stop c a n) vs = record { code = c; at = a; steps = n; values = vs }

-- refused before the first field
abbrev pub unread : List Field → ℕ → Reading
unread l code = valued l (stop code 0 0)

-- the fields asked for, of the descriptor that is handed in: by their layout from the start of its range, held to it
unfoldable pub read : Mode → (asked_kind asked_format : ℕ) → (input : List ℕ) → (kind format start extent : ℕ) → Fields
read mode ak af s k f start extent = answered (limited s
    (cond (leb (start + extent) (length s))
    (cond (eqb k ak & eqb f af)
    (reading (layout_of mode ak af) (take (start + extent) s) (from start))
    (unread (layout_of mode ak af) 11))
    (unread (layout_of mode ak af) 10))
    (unread (layout_of mode ak af) 1))

-- ---- what is answered as start and count

abbrev pub no_span : Span
no_span = record { start = 0; count = 0 }

pub record Listed : Type 0 where
  pub present : Bool
  pub value : ℕ

-- the word with this index of a list: none where the list is no longer than that, or the input ends before it
unfoldable pub list_word_of : (input : List ℕ) → (start count index : ℕ) → Listed
list_word_of s start count i =
    cond (leb (i + 1) count & leb (start + 4 * (i + 1)) (length s))
    (record { present = true; value = be4 s (start + 4 * i) })
    (record { present = false; value = 0 })

-- a segment of an AS path: a type and a list
abbrev pub segment_fields : List Field
segment_fields = words 1 ++ list ∷ []

-- the segment at a position; the position answered is where the next one begins
unfoldable pub segment_at : (input : List ℕ) → (at : ℕ) → Fields
segment_at s at = answered (limited s
    (cond (leb at (length s)) (reading segment_fields s (from at)) (unread segment_fields 10))
    (unread segment_fields 1))

-- ---- the payload

-- where a descriptor's payload lies, and an empty range where codes 1 or 10 would apply
unfoldable pub payload_span_of : (input : List ℕ) → (start extent : ℕ) → Span
payload_span_of s start extent = limited s (cond (leb (start + extent) (length s)) (record { start = start; count = extent }) no_span) no_span

-- where all of it lies, from its first byte to the end of its pad: empty likewise, and where its first byte is behind its start
unfoldable pub whole_span_of : (input : List ℕ) → (start extent first : ℕ) → Span
whole_span_of s start extent first = limited s
    (cond (leb first start & leb (start + padded extent) (length s)) (record { start = first; count = start + padded extent - first }) no_span)
    no_span

-- the payload: that part of the input
unfoldable pub payload : (input : List ℕ) → (start extent : ℕ) → List ℕ
payload s start extent = take (payload_span_of s start extent).count (drop (payload_span_of s start extent).start s)
