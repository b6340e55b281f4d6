-- A script: what is to be read, item by item. The layouts are written as scripts, once; `Cursor.antt` says what a decoder
-- answers to one, and `Grammar.antt` which bytes are one. Assumes nothing.
use Rattle.std.specs.Prelude.{ℕ, Bool, List, [], ◌++◌, ℤ}

-- a range of the input
pub record Span : Type 0 where
  pub start : ℕ
  pub count : ℕ

-- what a field gives: a number, the bytes of a fixed block, an address (its type and sixteen bytes), or where an opaque, a string
-- or a list lies (its first byte after the length or count word, and that length or count)
pub data Value : Type 0 where
  number : ℕ → Value
  integer : ℤ → Value
  octets : List ℕ → Value
  address : (type : ℕ) → (octets : List ℕ) → Value
  part : Span → Value

-- a range that gets a descriptor: its kind (0 datagram, 1 sample, 2 flow record, 3 counter record, 4 PDU), format word and depth, and
-- the first byte of what it is the range of: a datagram's own, a frame's format word, a PDU's count word
pub record Range : Type 0 where
  pub kind : ℕ
  pub format : ℕ
  pub span : Span
  pub depth : ℕ
  pub first : ℕ

-- ranges side by side, each with those inside it
pub data Forest : Type 0 where
  bare : Forest
  tree : Range → (inner after : Forest) → Forest

infixr 40 ◌⊕◌
abbrev pub ◌⊕◌ : Forest → Forest → Forest
bare ⊕ g = g
tree r inner after ⊕ g = tree r inner (after ⊕ g)

-- what a script finds
pub record Found : Type 0 where
  pub values : List Value
  pub ranges : Forest

abbrev pub nothing : Found
nothing = record { values = []; ranges = bare }

infixr 40 ◌⊞◌
abbrev pub ◌⊞◌ : Found → Found → Found
a ⊞ b = record { values = a.values ++ b.values; ranges = a.ranges ⊕ b.ranges }

-- the widths of a fixed block: none is under four bytes
pub data Width : Type 0 where
  four six eight sixteen : Width

abbrev pub octet_count : Width → ℕ
octet_count four = 4
octet_count six = 6
octet_count eight = 8
octet_count sixteen = 16

-- an item of RFC 4506, as the rules count them (docs/RULES.md, 2): a word (u32), one that has to pass a test or is refused by a code, a u64, an i32,
-- a fixed block, an opaque, and an opaque that is UTF-8
pub data Item : Type 0 where
  word : Item
  tested : (ok : ℕ → Bool) → (code : ℕ) → Item
  long : Item
  int : Item
  block : Width → Item
  opaque : Item
  string : Item

pub data Script : Type 0 where
  -- nothing more is read
  give : Found → Script
  -- the reading may not go on here
  refuse : (code : ℕ) → Script
  -- the position, reading nothing
  here : (ℕ → Script) → Script
  -- one item
  item : Item → (Value → Script) → Script
  -- an opaque, with a script inside it; what that leaves over is ignored
  within : Script → (Span → Found → Script) → Script
  -- a script, so many times over
  repeat : ℕ → Script → (Found → Script) → Script
