-- What is answered as start and count, in the grammar's terms: a payload, a word of a list, and a segment of an AS path. Definitions only. Assumes nothing.
use Rattle.std.specs.Prelude.{ℕ, ◌+◌, ◌≤◌, ◌<◌, ◌⊎◌, ◌≡◌, true, false, List, [], ◌++◌, length, drop}
use Rattle.reading.specs.Script.{Value, number, Found, nothing, word}
use Rattle.reading.specs.Grammar.{IsItem, Many, Is}
use Rattle.reading.specs.Layout.{any_word, segment}
use Rattle.reading.specs.Values.{alone}
use Rattle.reading.specs.Answer.{Fields, Listed, segment_fields, segment_at}
use Rattle.reading.specs.Sizes.{longest_input}
use Rattle.demands.specs.FieldsItemised.{only_values, no_fields, Held}

-- the bytes x stand in s from this position on
pub record StandsAt (s : List ℕ) (at : ℕ) (x : List ℕ) : Type 0 where
  pub before : List ℕ
  pub after : List ℕ
  pub joined : s ≡ before ++ (x ++ after)
  pub long : length before ≡ at

-- the payload of a range: the bytes that it is the range of; nothing, where codes 1 or 10 would apply
pub data PayloadIs (s : List ℕ) (start extent : ℕ) (x : List ℕ) : Type 0 where
  whole : length s ≤ longest_input → StandsAt s start x → length x ≡ extent → PayloadIs s start extent x
  empty : (longest_input < length s) ⊎ (length s < start + extent) → x ≡ [] → PayloadIs s start extent x

-- v is the word with index i of a list of so many words that begins at `start`: i words stand before it
pub record WordAt (s : List ℕ) (start count i v : ℕ) : Type 0 where
  pub fewer : i < count
  pub before : List ℕ
  pub this : List ℕ
  pub stands : StandsAt s start (before ++ this)
  pub words : Many i (Is any_word) start before nothing i
  pub is : IsItem word (start + length before) this (number v)

pub data ListedIs (s : List ℕ) (start count i : ℕ) (a : Listed) : Type 0 where
  present : (v : ℕ) → WordAt s start count i v → a ≡ record { present = true; value = v } → ListedIs s start count i a
  absent : ((v : ℕ) → WordAt s start count i v → ⊥) → a ≡ record { present = false; value = 0 } → ListedIs s start count i a

-- what is answered of the segment at a position: codes 1 and 10, then its type and its list, by the grammar, held to the input
pub data SegmentItemised (s : List ℕ) (at : ℕ) (a : Fields) : Type 0 where
  too_long : longest_input < length s → a ≡ no_fields segment_fields 1 0 0 → SegmentItemised s at a
  passes : length s ≤ longest_input → length s < at → a ≡ no_fields segment_fields 10 0 0 → SegmentItemised s at a
  held : length s ≤ longest_input → at ≤ length s → Held segment_fields at (drop at s) a → SegmentItemised s at a

-- the bytes b at this position are a segment and n more: the first is answered, and the position answered is where the others stand
pub record FirstOfSegments (s : List ℕ) (at n : ℕ) (b : List ℕ) : Type 0 where
  pub this : List ℕ
  pub others : List ℕ
  pub joined : b ≡ this ++ others
  pub values : List Value
  pub items : ℕ
  pub is : Is (alone segment_fields) at this (only_values values) items
  pub answer : segment_at s at ≡ record { code = 0; at = at + length this; steps = items; values = values }
  pub found : Found
  pub more : ℕ
  pub rest : Many n (Is segment) (at + length this) others found more
