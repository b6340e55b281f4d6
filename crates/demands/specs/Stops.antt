-- Where a reading stops, as the grammar has it: the items that are read before the fault, in order, and why the next one is none. By joining
-- byte strings end to end, with no cursor. Definitions only. Assumes nothing.
use Rattle.std.specs.Prelude.{ℕ, ◌+◌, ◌≤◌, ◌<◌, ◌≡◌, Bool, false, List, ◌++◌, length}
use Rattle.reading.specs.Sizes.{longest_opaque}
use Rattle.reading.specs.Bytes.{be4, padded}
use Rattle.reading.specs.Utf8.{Longest}
use Rattle.reading.specs.Script.{Width, octet_count, Span, Value, Found, Item, word, tested, long, int, block, opaque, string, Script, refuse, here, item, within, repeat}
use Rattle.reading.specs.Grammar.{Opaque, IsItem, Many, Is}

-- b, which is all that is left of what encloses the item, does not begin with an opaque: this is the code
pub data NoOpaque (b : List ℕ) (code : ℕ) : Type 0 where
  no_length : length b < 4 → code ≡ 2 → NoOpaque b code
  too_long : 4 ≤ length b → longest_opaque < be4 b 0 → code ≡ 5 → NoOpaque b code
  cut : 4 ≤ length b → be4 b 0 ≤ longest_opaque → length b < 4 + padded (be4 b 0) → code ≡ 2 → NoOpaque b code

-- b begins with an opaque that holds x, and `rest` is left over
pub record Opens (x b : List ℕ) : Type 0 where
  pub read : List ℕ
  pub rest : List ℕ
  pub joined : b ≡ read ++ rest
  pub is : Opaque x read

-- b does not begin with this item: this is the code
pub data NoItem (b : List ℕ) (code : ℕ) : Item → Type 0 where
  no_word : length b < 4 → code ≡ 2 → NoItem b code word
  no_tested : {ok : ℕ → Bool} {c : ℕ} → length b < 4 → code ≡ 2 → NoItem b code (tested ok c)
  failed : {ok : ℕ → Bool} {c : ℕ} → 4 ≤ length b → ok (be4 b 0) ≡ false → code ≡ c → NoItem b code (tested ok c)
  no_long : length b < 8 → code ≡ 2 → NoItem b code long
  no_int : length b < 4 → code ≡ 2 → NoItem b code int
  no_block : {w : Width} → length b < octet_count w → code ≡ 2 → NoItem b code (block w)
  no_part : NoOpaque b code → NoItem b code opaque
  no_string : NoOpaque b code → NoItem b code string

-- a script that starts at o, with b left of what encloses it, stops with this code at this position, after so many items
pub data Stops : Script → (o : ℕ) → (b : List ℕ) → (code at items : ℕ) → Type 0 where
  -- the reading may not go on here
  barred : {c o code at n : ℕ} {b : List ℕ} → code ≡ c → at ≡ o → n ≡ 0 → Stops (refuse c) o b code at n
  standing : {k : ℕ → Script} {o code at n : ℕ} {b : List ℕ} → Stops (k o) o b code at n → Stops (here k) o b code at n
  -- the next item is none; or it is one, and the reading stops behind it
  no_item : {i : Item} {k : Value → Script} {o code at n : ℕ} {b : List ℕ} → NoItem b code i → at ≡ o → n ≡ 0 → Stops (item i k) o b code at n
  -- the next item is a string that is there, and whose bytes are not well-formed from the end of their longest well-formed beginning on
  not_text : {k : Value → Script} {o code at n : ℕ} {b : List ℕ} (x : List ℕ) (j : ℕ) → Opens x b → Longest x j → j < length x → code ≡ 7 → at ≡ o + 4 + j → n ≡ 0 → Stops (item string k) o b code at n
  past_item : {i : Item} {k : Value → Script} {o code at n : ℕ} {b : List ℕ} (x y : List ℕ) (v : Value) (m : ℕ) → b ≡ x ++ y → n ≡ 1 + m
      → IsItem i o x v → Stops (k v) (o + length x) y code at m → Stops (item i k) o b code at n
  -- the next item is no opaque; or it is one, and the reading stops inside it, where its payload encloses it; or behind it
  no_opaque : {body : Script} {k : Span → Found → Script} {o code at n : ℕ} {b : List ℕ} → NoOpaque b code → at ≡ o → n ≡ 0 → Stops (within body k) o b code at n
  inside_it : {body : Script} {k : Span → Found → Script} {o code at n : ℕ} {b : List ℕ} (x : List ℕ) (m : ℕ) → n ≡ 1 + m
      → (q : Opens x b) → Stops body (o + 4) x code at m → Stops (within body k) o b code at n
  past_it : {body : Script} {k : Span → Found → Script} {o code at n : ℕ} {b : List ℕ} (x u y inner rest : List ℕ) (a : Found) (m l : ℕ) → b ≡ u ++ y → n ≡ 1 + m + l
      → Opaque x u → x ≡ inner ++ rest → Is body (o + 4) inner a m
      → Stops (k (record { start = o + 4; count = length x }) a) (o + length u) y code at l → Stops (within body k) o b code at n
  -- of c in a row, j are read, and the next one stops; or all are, and the reading stops behind them
  among : {c : ℕ} {body : Script} {k : Found → Script} {o code at n : ℕ} {b : List ℕ} (j : ℕ) (x y : List ℕ) (a : Found) (m l : ℕ) → j < c → b ≡ x ++ y → n ≡ m + l
      → Many j (Is body) o x a m → Stops body (o + length x) y code at l → Stops (repeat c body k) o b code at n
  past_all : {c : ℕ} {body : Script} {k : Found → Script} {o code at n : ℕ} {b : List ℕ} (x y : List ℕ) (a : Found) (m l : ℕ) → b ≡ x ++ y → n ≡ m + l
      → Many c (Is body) o x a m → Stops (k a) (o + length x) y code at l → Stops (repeat c body k) o b code at n
