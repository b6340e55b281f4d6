-- The pads of a reading by the grammar: which bytes of a datagram are behind the payload of an opaque or a string. Definitions only. Assumes nothing.
use Rattle.std.specs.Prelude.{ℕ, zero, suc, ◌+◌, ◌≤◌, ◌<◌, ◌⊎◌, ◌≡◌, List, length, get_or}
use Rattle.reading.specs.Script.{Value, Found, Item, word, tested, long, int, block, opaque, string, Script, give, refuse, here, item, within, repeat}
use Rattle.reading.specs.Grammar.{Opaque, IsItem, Meaning, Many, Is}
use Rattle.reading.specs.Layout.{Mode, datagram_to}
use Rattle.demands.specs.Readings.{Allowed}

-- an opaque that starts at o is a length word, a payload x and a pad: position i is that of a byte of the pad
abbrev pub InPad : {x u : List ℕ} → (o : ℕ) → Opaque x u → (i : ℕ) → Type 0
InPad {x} o q i = (j : ℕ) × (j < length q.pad) × (i ≡ o + 4 + length x + j)

-- of an item: only an opaque and a string have a pad
abbrev pub ItemPad : (a : Item) (o : ℕ) (b : List ℕ) (v : Value) → IsItem a o b v → (i : ℕ) → Type 0
unfolding IsItem
ItemPad word o b v t i = ⊥
ItemPad (tested ok code) o b v t i = ⊥
ItemPad long o b v t i = ⊥
ItemPad int o b v t i = ⊥
ItemPad (block w) o b v t i = ⊥
ItemPad opaque o b v (x, q, _) i = InPad o q i
ItemPad string o b v (x, q, _, _) i = InPad o q i

-- of one of so many in a row
unfoldable pub ManyPad : (c : ℕ) (P : Meaning) → ((o : ℕ) (b : List ℕ) (f : Found) (n : ℕ) → P o b f n → ℕ → Type 0) → (o : ℕ) (b : List ℕ) (f : Found) (n : ℕ) → Many c P o b f n → ℕ → Type 0
unfolding Many
ManyPad zero P each o b f n t i = ⊥
ManyPad (suc c) P each o b f n (x, y, g, h, m, l, _, _, _, t, u) i = each o x g m t i ⊎ ManyPad c P each (o + length x) y h l u i

-- of a reading: position i is in a pad of the bytes b, which start at o and are the script
unfoldable pub Pad : (sc : Script) (o : ℕ) (b : List ℕ) (f : Found) (n : ℕ) → Is sc o b f n → ℕ → Type 0
unfolding Is ManyPad
Pad (give a) o b f n t i = ⊥
Pad (refuse code) o b f n t i = ⊥
Pad (here k) o b f n t i = Pad (k o) o b f n t i
Pad (item a k) o b f n (x, y, v, m, _, _, t, u) i = ItemPad a o x v t i ⊎ Pad (k v) (o + length x) y f m u i
Pad (within body k) o b f n (u, y, x, inner, rest, a, m, l, _, _, q, _, t, v) i =
    InPad o q i ⊎ (Pad body (o + 4) inner a m t i ⊎ Pad (k (record { start = o + 4; count = length x }) a) (o + length u) y f l v i)
Pad (repeat c body k) o b f n (x, y, a, m, l, _, _, t, v) i = ManyPad c (Is body) (Pad body) o x a m t i ⊎ Pad (k a) (o + length x) y f l v i

-- of a datagram that s begins with
abbrev pub PadOf : {mode : Mode} {s : List ℕ} {f : Found} {bytes items : ℕ} → Allowed mode 0 s f bytes items → ℕ → Type 0
PadOf {mode} {f = f} {items = items} r i = Pad (datagram_to mode r.reading.levels) 0 r.reading.begins.read f items r.reading.begins.is i

-- t has each byte of the datagram that is in no pad; what its pads hold, and what is behind its end, is free, and so is the length from there on
pub record SameButPads (mode : Mode) {s : List ℕ} {f : Found} {bytes items : ℕ} (r : Allowed mode 0 s f bytes items) (t : List ℕ) : Type 0 where
  pub long : bytes ≤ length t
  pub alike : (i : ℕ) → i < bytes → (PadOf r i → ⊥) → get_or t i 0 ≡ get_or s i 0
