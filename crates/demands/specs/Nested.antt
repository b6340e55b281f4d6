-- Ranges that lie inside one another and one after another: of a forest, and of the descriptors in a store. Definitions only. Assumes nothing.
use Rattle.std.specs.Prelude.{ℕ, ◌+◌, ◌*◌, ◌-◌, ◌≤◌, ◌<◌, ◌⊎◌, ◌≡◌, List, get_or}
use Rattle.reading.specs.Bytes.{padded}
use Rattle.reading.specs.Script.{Span, Range, Forest, bare, tree}
use Rattle.reading.specs.Answer.{nobody, whole_span_of}
use Rattle.reading.specs.Sizes.{descriptor_words}

-- where a range ends, and where all of what it is the range of does: behind the pad
abbrev pub end : Span → ℕ
end x = x.start + x.count

abbrev pub last : Span → ℕ
last x = x.start + padded x.count

-- where ranges stand: at the top, where each is a datagram's (kind 0), or inside another, where none is
pub data Level : Type 0 where
  top inside : Level

abbrev pub KindAt : Level → ℕ → Type 0
KindAt top k = k ≡ 0
KindAt inside k = 0 < k

-- how its first byte stands to its range: a datagram's is the range's own; any other's is that of a word before it
abbrev pub Led : Level → Range → Type 0
Led top r = r.first ≡ r.span.start
Led inside r = r.first + 4 ≤ r.span.start

-- where what is inside it may begin: in a datagram behind its first word, in any other where its range does
abbrev pub inner_from : Level → Range → ℕ
inner_from top r = r.span.start + 4
inner_from inside r = r.span.start

-- the ranges of a forest lie between lo and hi, one after another, counted from their first bytes to their pads, and in each lie those inside it
pub data Nested : Level → (lo hi : ℕ) → Forest → Type 0 where
  none : {v : Level} {lo hi : ℕ} → lo ≤ hi → Nested v lo hi bare
  next : {v : Level} {lo hi : ℕ} {r : Range} {inner after : Forest} → KindAt v r.kind → lo ≤ r.first → Led v r
      → Nested inside (inner_from v r) (end r.span) inner → Nested v (last r.span) hi after → Nested v lo hi (tree r inner after)

-- one range lies inside another
abbrev pub Inside : Span → Span → Type 0
Inside x y = (y.start ≤ x.start) × (end x ≤ end y)

-- a position is that of a byte of a range
abbrev pub ByteOf : ℕ → Span → Type 0
ByteOf o y = (y.start ≤ o) × (o < end y)

-- what a descriptor says of its place: its kind, its range, its parent's index, and its first byte
pub record Row : Type 0 where
  pub kind : ℕ
  pub span : Span
  pub parent : ℕ
  pub first : ℕ

unfoldable pub row : (store : List ℕ) → (index : ℕ) → Row
row w i = record {
  kind = get_or w (descriptor_words * i + 0) 0;
  span = record { start = get_or w (descriptor_words * i + 2) 0; count = get_or w (descriptor_words * i + 3) 0 };
  parent = get_or w (descriptor_words * i + 4) 0;
  first = get_or w (descriptor_words * i + 6) 0;
}

-- all of what a descriptor stands for, from its first byte to the end of its pad; and what is answered of it
abbrev pub all_of : Row → Span
all_of r = record { start = r.first; count = last r.span - r.first }

abbrev pub whole_of : List ℕ → Row → Span
whole_of s r = whole_span_of s r.span.start r.span.count r.first

-- the descriptor with index k is under the one with index i: that is its parent, or its parent is under it
pub data Under (w : List ℕ) (i : ℕ) : (k : ℕ) → Type 0 where
  child : {k : ℕ} → ((row w k).kind ≡ 0 → ⊥) → (row w k).parent ≡ i → Under w i k
  deeper : {k : ℕ} → ((row w k).kind ≡ 0 → ⊥) → Under w i (row w k).parent → Under w i k

-- the descriptors of a store, so many of them, are in place in an input of this length
pub record InPlace (w : List ℕ) (n size : ℕ) : Type 0 where
  -- a datagram's has no parent
  pub no_parent : (i : ℕ) → i < n → (row w i).kind ≡ 0 → (row w i).parent ≡ nobody
  -- any other has its parent before itself, and lies inside it, with its pad
  pub parent_before : (i : ℕ) → i < n → ((row w i).kind ≡ 0 → ⊥) → (row w i).parent < i
  pub parent_holds : (i : ℕ) → i < n → ((row w i).kind ≡ 0 → ⊥) → Inside (row w i).span (row w (row w i).parent).span
  pub pad_inside : (i : ℕ) → i < n → ((row w i).kind ≡ 0 → ⊥) → last (row w i).span ≤ end (row w (row w i).parent).span
  -- a datagram's first byte is its range's; any other's is a byte of its parent's range, and its own range begins at least a word later
  pub own_first : (i : ℕ) → i < n → (row w i).kind ≡ 0 → (row w i).first ≡ (row w i).span.start
  pub first_inside : (i : ℕ) → i < n → ((row w i).kind ≡ 0 → ⊥) → ByteOf (row w i).first (row w (row w i).parent).span
  pub first_before : (i : ℕ) → i < n → (row w i).first ≤ (row w i).span.start
  -- the input has all of it
  pub all_there : (i : ℕ) → i < n → last (row w i).span ≤ size
  -- of two with one parent the second's first byte is at or after the end of the first's pad
  pub siblings_apart : (i k : ℕ) → i < k → k < n → (row w i).parent ≡ (row w k).parent → last (row w i).span ≤ (row w k).first
  -- they are in order of first byte, a word apart at least
  pub in_order : (i k : ℕ) → i < k → k < n → (row w i).first + 4 ≤ (row w k).first
  -- and depth first: of two, the second is under the first, or begins at or after the end of its pad
  pub under_or_behind : (i k : ℕ) → i < k → k < n → Under w i k ⊎ (last (row w i).span ≤ (row w k).first)
