-- The fields of the descriptors of an accepted input: which descriptors have fields that are read here, and that their fields are those of the reading. In
-- the grammar's terms. Definitions only. Assumes nothing.
use Rattle.std.specs.Prelude.{ℕ, zero, suc, ◌+◌, ◌*◌, ◌-◌, ◌<◌, ◌≡◌, Bool, true, false, cond, List, [], ◌∷◌, ◌++◌, eqb, take, drop, get_or}
use Rattle.reading.specs.Numbers.{known}
use Rattle.reading.specs.Script.{Value, Range, Forest, tree, Found, nothing, Script, give, repeat}
use Rattle.reading.specs.Grammar.{Is}
use Rattle.reading.specs.Layout.{Mode, Row, last_number, fixed_rows, pdu, flows, flow, counters, samples, sample}
use Rattle.reading.specs.Sizes.{descriptor_words, depth_limit}
use Rattle.reading.specs.Answer.{size, layout_of, read}
use Rattle.demands.specs.FieldsItemised.{FieldsReading}

-- the range that the descriptor with this index stands for
unfoldable pub range : (store : List ℕ) → (index : ℕ) → Range
range w i = record {
  kind = get_or w (descriptor_words * i + 0) 0;
  format = get_or w (descriptor_words * i + 1) 0;
  span = record { start = get_or w (descriptor_words * i + 2) 0; count = get_or w (descriptor_words * i + 3) 0 };
  depth = get_or w (descriptor_words * i + 5) 0;
  first = get_or w (descriptor_words * i + 6) 0;
}

-- the formats of the rules (docs/RULES.md, 3): of the samples that are opened, of the flow records, and of the counter records
abbrev pub sample_formats : List ℕ
sample_formats = 1 ∷ 2 ∷ 3 ∷ 4 ∷ 5 ∷ []

abbrev pub flow_formats : List ℕ
flow_formats = 1 ∷ 2 ∷ 3 ∷ 4 ∷ 1001 ∷ 1002 ∷ 1003 ∷ 1004 ∷ 1005 ∷ 1006 ∷ 1007 ∷ 1008 ∷ 1009 ∷ 1010 ∷ 1011 ∷ 1012 ∷ 1013 ∷ 1014 ∷ 1015 ∷ 1016 ∷ []

abbrev pub counter_formats : List ℕ
counter_formats = 1 ∷ 2 ∷ 3 ∷ 4 ∷ 5 ∷ 1001 ∷ []

-- whether a descriptor of this kind and format has fields that are read: a datagram has, and a sample or a record of these formats
unfoldable pub has_fields : (kind format : ℕ) → Bool
has_fields zero f = known (0 ∷ []) f
has_fields (suc zero) f = known sample_formats f
has_fields (suc (suc zero)) f = known flow_formats f
has_fields (suc (suc (suc zero))) f = known counter_formats f
has_fields (suc (suc (suc (suc k)))) f = false

-- what a table has behind the fields of this format, by their values
abbrev pub more_of : List Row → ℕ → List Value → Script
more_of [] f = λ _. give nothing
more_of (r ∷ rest) f = cond (eqb r.format f) r.more (more_of rest f)

-- what the grammar reads behind the fields, by their values: so many samples in a datagram, and what the row has; a flow record's PDUs have its depth
unfoldable pub follows : Mode → (kind format depth : ℕ) → List Value → Script
follows mode zero f d vs = repeat (last_number vs) (sample mode depth_limit) (λ a. give a)
follows mode (suc zero) f d vs = more_of (samples mode depth_limit) f vs
follows mode (suc (suc zero)) f d vs = more_of (flows mode (pdu d (flow mode depth_limit (depth_limit - d)))) f vs
follows mode (suc (suc (suc zero))) f d vs = more_of (fixed_rows counters) f vs
follows mode (suc (suc (suc (suc k)))) f d vs = give nothing

-- the range r stands in a forest, with `inner` inside it
pub data StandsIn (r : Range) (inner : Forest) : Forest → Type 0 where
  this : {after : Forest} → StandsIn r inner (tree r inner after)
  inside : {o : Range} {within after : Forest} → StandsIn r inner within → StandsIn r inner (tree o within after)
  later : {o : Range} {within after : Forest} → StandsIn r inner after → StandsIn r inner (tree o within after)

-- the range r of the reading of s that has the ranges g: it stands in g, with `inner` inside it; it begins with bytes that are its layout, and field reading
-- answers just that; behind them are the bytes of what follows these values, of which `inner` are the ranges
pub record FieldsAre (mode : Mode) (s : List ℕ) (g : Forest) (r : Range) : Type 0 where
  pub inner : Forest
  pub stands : StandsIn r inner g
  pub values : List Value
  pub bytes : ℕ
  pub items : ℕ
  pub reading : FieldsReading (layout_of mode r.kind r.format) r.span.start (take r.span.count (drop r.span.start s)) values bytes items
  pub answer : read mode r.kind r.format s r.kind r.format r.span.start r.span.count ≡ record { code = 0; at = r.span.start + bytes; steps = items; values = values }
  pub next : List ℕ
  pub rest : List ℕ
  pub joined : reading.rest ≡ next ++ rest
  pub found : Found
  pub more : ℕ
  pub holds : Is (follows mode r.kind r.format r.depth values) (r.span.start + bytes) next found more
  pub ranges : inner ≡ found.ranges

-- so it is of each descriptor of a store in which the rows of g stand, if it has fields
abbrev pub AllFields : Mode → List ℕ → Forest → List ℕ → Type 0
AllFields mode s g store = (i : ℕ) → i < size g → has_fields (range store i).kind (range store i).format ≡ true → FieldsAre mode s g (range store i)
