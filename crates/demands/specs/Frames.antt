-- What the descriptor of a sample or a record stands for: a format word and an opaque, whose payload is its range. Definitions only. Assumes nothing.
use Rattle.std.specs.Prelude.{ℕ, ◌+◌, ◌<◌, ◌≡◌, List, ◌++◌, length}
use Rattle.reading.specs.Script.{number, word, Range, Forest, bare, tree}
use Rattle.reading.specs.Grammar.{Opaque, IsItem}
use Rattle.demands.specs.Parts.{StandsAt}

-- from its first byte on stand a word, which is its format, and an opaque; what that holds is its range
pub record FrameAt (s : List ℕ) (r : Range) : Type 0 where
  pub format : List ℕ
  pub opaque : List ℕ
  pub payload : List ℕ
  pub stands : StandsAt s r.first (format ++ opaque)
  pub word : IsItem word r.first format (number r.format)
  pub holds : Opaque payload opaque
  pub start : r.span.start ≡ r.first + 8
  pub count : r.span.count ≡ length payload

-- so it is of a sample and a record: the kinds 1 to 3
abbrev pub Frame : List ℕ → Range → Type 0
Frame s r = 0 < r.kind → r.kind < 4 → FrameAt s r

pub data Frames (s : List ℕ) : Forest → Type 0 where
  none : Frames s bare
  also : {r : Range} {inner after : Forest} → Frame s r → Frames s inner → Frames s after → Frames s (tree r inner after)
