-- What each answer of field reading says, in the grammar's terms. Definitions only. Assumes nothing.
use Rattle.std.specs.Prelude.{ℕ, ◌+◌, ◌≤◌, ◌<◌, ◌≡◌, List, length, take, drop}
use Rattle.reading.specs.Script.{Value, bare, Found}
use Rattle.reading.specs.Layout.{Mode, Field}
use Rattle.reading.specs.Values.{zeros, alone}
use Rattle.reading.specs.Answer.{layout_of, Fields}
use Rattle.reading.specs.Sizes.{longest_input}
use Rattle.demands.specs.Stops.{Stops}
use Rattle.demands.specs.Readings.{Begins}

-- the values of a layout, and nothing else
abbrev pub only_values : List Value → Found
only_values vs = record { values = vs; ranges = bare }

-- a refusal: every field is zero
abbrev pub no_fields : List Field → (code at steps : ℕ) → Fields
no_fields l c i n = record { code = c; at = i; steps = n; values = zeros l }

-- a reading of layout l by the grammar of b, from `start` on
abbrev pub FieldsReading : List Field → (start : ℕ) → (b : List ℕ) → List Value → (bytes items : ℕ) → Type 0
FieldsReading l start b vs = Begins (alone l) start b (only_values vs)

-- what the reading of layout l says that starts at `start`, with b as what encloses it
pub data Held (l : List Field) (start : ℕ) (b : List ℕ) (a : Fields) : Type 0 where
  read_whole : (vs : List Value) (bytes items : ℕ) → FieldsReading l start b vs bytes items → a ≡ record { code = 0; at = start + bytes; steps = items; values = vs } → Held l start b a
  stopped_at : (c i n : ℕ) → Stops (alone l) start b c i n → a ≡ no_fields l c i n → Held l start b a

-- what each answer says, to a descriptor of this kind, format and range, asked for the fields of another kind and format
pub data FieldsItemised (mode : Mode) (ak af : ℕ) (s : List ℕ) (k f start extent : ℕ) (a : Fields) : Type 0 where
  too_long : longest_input < length s → a ≡ no_fields (layout_of mode ak af) 1 0 0 → FieldsItemised mode ak af s k f start extent a
  passes : length s ≤ longest_input → length s < start + extent → a ≡ no_fields (layout_of mode ak af) 10 0 0 → FieldsItemised mode ak af s k f start extent a
  other : length s ≤ longest_input → start + extent ≤ length s → ((k ≡ ak) × (f ≡ af) → ⊥) → a ≡ no_fields (layout_of mode ak af) 11 0 0 → FieldsItemised mode ak af s k f start extent a
  held : length s ≤ longest_input → start + extent ≤ length s → k ≡ ak → f ≡ af → Held (layout_of mode ak af) start (take extent (drop start s)) a → FieldsItemised mode ak af s k f start extent a

-- the fields asked for are read: s is not too long, the range is in it, the kind and the format are those asked for, and in the range there is a reading
pub record FieldsRead (mode : Mode) (ak af : ℕ) (s : List ℕ) (k f start extent : ℕ) (vs : List Value) (bytes items : ℕ) : Type 0 where
  pub short : length s ≤ longest_input
  pub lies : start + extent ≤ length s
  pub kind : k ≡ ak
  pub format : f ≡ af
  pub reading : FieldsReading (layout_of mode ak af) start (take extent (drop start s)) vs bytes items
