-- What the second pass leaves in the store, in terms of the reading: a descriptor, a frame's, and those of a whole reading. Assumes nothing.
use Rattle.std.specs.Prelude.{ℕ, ◌+◌, ◌*◌, ◌/◌, ◌≤◌, List, length}
use Rattle.reading.specs.Bytes.{be4, padded}
use Rattle.reading.specs.Script.{Range, Found}
use Rattle.reading.specs.Cursor.{Out}
use Rattle.reading.specs.Answer.{size, row_of, rows}
use Rattle.reading.specs.Sizes.{descriptor_words, longest_input}
use Rattle.reading.proofs.Places.{Accepted, ranges_of, end_of}
use Rattle.reading.proofs.Stored.{write}
use Rattle.store.specs.declared.Descriptor.{Descriptor}
use Rattle.store.specs.declared.Pen.{Pen}
use Rattle.store.specs.declared.Written.{Written}

-- the index of the descriptor that a pen writes next
abbrev pub index : Pen → ℕ
index pen = pen.base + pen.word / descriptor_words

-- the reading o is accepted, the store l has room for its descriptors, and every number of them fits a word
pub record Ready (s l : List ℕ) (pen : Pen) (o : Out Found) : Type 0 where
  pub short : length s ≤ longest_input
  pub good : Accepted o
  pub room : pen.word + descriptor_words * size (ranges_of o) ≤ length l
  pub few : index pen + size (ranges_of o) ≤ longest_input

-- the range that a descriptor is of
abbrev pub range_of : Descriptor → Range
range_of d = record { kind = d.kind; format = d.format.0; span = record { start = d.start; count = d.length }; depth = d.depth; first = d.first }

-- where a pass has come to, and the store that it leaves
pub record Put : Type 0 where
  pub at : ℕ
  pub word : ℕ
  pub store : List ℕ

abbrev pub written : Written → List ℕ → Put
written r l = record { at = r.at; word = r.word; store = l }

abbrev pub a_pen : (base parent word : ℕ) → Pen
a_pen b p w = record { base = b; parent = p; word = w }

-- the pen for what the range holds whose own descriptor is at a word
abbrev pub held_by : (base word : ℕ) → Pen
held_by b w = record { base = b; parent = b + w / descriptor_words; word = w + descriptor_words }

unfoldable pub placed : Pen → Out Found → List ℕ → Put
placed pen o l = record {
  at = end_of o;
  word = pen.word + descriptor_words * size (ranges_of o);
  store = write l pen.word (rows (index pen) pen.parent (ranges_of o));
}

-- the same without the position
pub record Filled : Type 0 where
  pub word : ℕ
  pub store : List ℕ

abbrev pub filled : ℕ → List ℕ → Filled
filled w l = record { word = w; store = l }

unfoldable pub fills : Pen → Out Found → List ℕ → Filled
unfolding placed
fills pen o l = record { word = (placed pen o l).word; store = (placed pen o l).store }

-- ---- a frame alone

-- it lies at a place, and the store has room for its descriptor
pub record FramedHere (s l : List ℕ) (at : ℕ) (pen : Pen) : Type 0 where
  pub fits : at + 8 + padded (be4 s (at + 4)) ≤ length s
  pub short : length s ≤ longest_input
  pub room : pen.word + descriptor_words ≤ length l
  pub few : pen.word / descriptor_words + 1 ≤ longest_input

-- the range of a frame at a place: its first byte is that of its format word
abbrev pub frame_range : (kind depth : ℕ) (s : List ℕ) (at : ℕ) → Range
frame_range kind depth s at = record { kind = kind; format = be4 s at; span = record { start = at + 8; count = be4 s (at + 4) }; depth = depth; first = at }

unfoldable pub framed_at : (kind depth : ℕ) (s : List ℕ) (at : ℕ) → Pen → List ℕ → Put
framed_at kind depth s at pen l = record {
  at = at + 8 + padded (be4 s (at + 4));
  word = pen.word + descriptor_words;
  store = write l pen.word (row_of pen.parent (frame_range kind depth s at));
}
