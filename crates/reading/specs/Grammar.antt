-- Which bytes are a script's: by joining byte strings end to end, with no cursor, no test for room and no order of faults. Assumes nothing.
use Rattle.std.specs.Prelude.{ℕ, zero, suc, ◌+◌, ◌≤◌, ◌≡◌, true, List, [], ◌++◌, length}
use Rattle.reading.specs.Utf8.{utf8}
use Rattle.reading.specs.Sizes.{longest_opaque}
use Rattle.reading.specs.Bytes.{be4, be8, signed, pads}
use Rattle.reading.specs.Script.{octet_count, Value, number, integer, octets, part, Found, nothing, ◌⊞◌, Item, word, tested, long, int, block, opaque, string, Script, give, refuse, here, item, within, repeat}

-- u is an opaque that holds x: a word that counts x, then x, then pad to a multiple of four, of any value
pub record Opaque (x u : List ℕ) : Type 0 where
  pub size : List ℕ
  pub pad : List ℕ
  pub joined : u ≡ size ++ (x ++ pad)
  pub four : length size ≡ 4
  pub counts : be4 size 0 ≡ length x
  pub small : length x ≤ longest_opaque
  pub filled : length pad ≡ pads (length x)

-- b, which starts at o, is the item, and gives v
unfoldable pub IsItem : Item → (o : ℕ) → (b : List ℕ) → Value → Type 0
IsItem word o b v = (length b ≡ 4) × (v ≡ number (be4 b 0))
IsItem (tested ok code) o b v = (length b ≡ 4) × (ok (be4 b 0) ≡ true) × (v ≡ number (be4 b 0))
IsItem long o b v = (length b ≡ 8) × (v ≡ number (be8 b 0))
IsItem int o b v = (length b ≡ 4) × (v ≡ integer (signed (be4 b 0)))
IsItem (block w) o b v = (length b ≡ octet_count w) × (v ≡ octets b)
IsItem opaque o b v = (x : List ℕ) × Opaque x b × (v ≡ part (record { start = o + 4; count = length x }))
IsItem string o b v = (x : List ℕ) × Opaque x b × (utf8 x ≡ true) × (v ≡ part (record { start = o + 4; count = length x }))

-- a meaning: from where it starts, the bytes, what is found in them, and how many items they are
abbrev pub Meaning : Type 1
Meaning = (o : ℕ) → (b : List ℕ) → Found → (items : ℕ) → Type 0

-- so many, end to end
unfoldable pub Many : ℕ → Meaning → Meaning
Many zero P o b f n = (b ≡ []) × (f ≡ nothing) × (n ≡ 0)
Many (suc c) P o b f n =
    (x y : List ℕ) × (g h : Found) × (m l : ℕ)
    × (b ≡ x ++ y) × (f ≡ g ⊞ h) × (n ≡ m + l)
    × P o x g m × Many c P (o + length x) y h l

unfoldable pub Is : Script → Meaning
Is (give a) o b f n = (b ≡ []) × (f ≡ a) × (n ≡ 0)
Is (refuse code) o b f n = ⊥
Is (here k) o b f n = Is (k o) o b f n
Is (item i k) o b f n =
    (x y : List ℕ) × (v : Value) × (m : ℕ)
    × (b ≡ x ++ y) × (n ≡ 1 + m)
    × IsItem i o x v × Is (k v) (o + length x) y f m
Is (within body k) o b f n =
    (u y x inner rest : List ℕ) × (a : Found) × (m l : ℕ)
    × (b ≡ u ++ y) × (n ≡ 1 + m + l)
    × Opaque x u × (x ≡ inner ++ rest)
    × Is body (o + 4) inner a m
    × Is (k (record { start = o + 4; count = length x }) a) (o + length u) y f l
Is (repeat c body k) o b f n =
    (x y : List ℕ) × (a : Found) × (m l : ℕ)
    × (b ≡ x ++ y) × (n ≡ m + l)
    × Many c (Is body) o x a m × Is (k a) (o + length x) y f l
