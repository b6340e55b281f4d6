-- Places of a text that are passed at once. Assumes nothing.
use Rattle.std.specs.Prelude.{ℕ, ◌-◌, ◌≤◌, ◌<◌, ◌≡◌, Bool, false, List, leb, length, drop, get_or}
use Rattle.reading.specs.Utf8.{◌&◌, tail}
use Rattle.reading.proofs.Utf8.{plain}
use Rattle.reading.proofs.Utf8Longest.{ends}

-- a byte that is no tail, of those from low to high; or the first of them
pub record LastBegins (s : List ℕ) (low high r : ℕ) : Type 0 where
  pub from : low ≤ r
  pub below : r < high
  pub begin : low < r → tail (get_or s r 0) ≡ false

-- to go on from r is the same as to go on from `at`, by the rows: what is left goes bad at the same place
pub record Skips (s : List ℕ) (at r : ℕ) : Type 0 where
  pub from : at ≤ r
  pub room : r ≤ length s
  pub same : ends s r ≡ ends s at

-- the last k bytes are all UTF8-1, and i is among them or behind them
unfoldable pub last_plain : ℕ → List ℕ → ℕ → Bool
last_plain k s i = leb (length s - k) i & leb k (plain (drop (length s - k) s))
