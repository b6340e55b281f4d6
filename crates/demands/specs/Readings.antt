-- A reading of one datagram by the grammar. Definitions only. Assumes nothing.
use Rattle.std.specs.Prelude.{ℕ, ◌≡◌, List, ◌++◌, length}
use Rattle.reading.specs.Script.{Found, Script}
use Rattle.reading.specs.Grammar.{Is}
use Rattle.reading.specs.Layout.{Mode, datagram_to}
use Rattle.reading.specs.Sizes.{depth_limit}
use Rattle.demands.specs.Depths.{Shallow}

-- b, which starts at o, begins with bytes that are the script, and `rest` is left over
pub record Begins (sc : Script) (o : ℕ) (b : List ℕ) (f : Found) (bytes items : ℕ) : Type 0 where
  pub read : List ℕ
  pub rest : List ℕ
  pub joined : b ≡ read ++ rest
  pub long : length read ≡ bytes
  pub is : Is sc o read f items

-- a reading by the grammar of b, which starts at o, of whatever depth
pub record Reading (mode : Mode) (o : ℕ) (b : List ℕ) (f : Found) (bytes items : ℕ) : Type 0 where
  pub levels : ℕ
  pub begins : Begins (datagram_to mode levels) o b f bytes items

-- a reading, with no record deeper than 8
pub record Allowed (mode : Mode) (o : ℕ) (b : List ℕ) (f : Found) (bytes items : ℕ) : Type 0 where
  pub reading : Reading mode o b f bytes items
  pub shallow : Shallow depth_limit f.ranges
