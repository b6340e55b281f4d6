-- A run of datagrams, as the grammar has it: one after another, each read where the one before ended. Definitions only. Assumes nothing.
use Rattle.std.specs.Prelude.{ℕ, ◌+◌, ◌≤◌, ◌<◌, ◌≡◌, List, length, drop}
use Rattle.reading.specs.Script.{Forest, bare, ◌⊕◌, Found}
use Rattle.reading.specs.Layout.{Mode, datagram}
use Rattle.demands.specs.Stops.{Stops}
use Rattle.demands.specs.Readings.{Allowed}

-- the grammar reads a datagram at this place of s, with no record deeper than 8
pub record DatagramAt (mode : Mode) (s : List ℕ) (at : ℕ) (f : Found) (bytes items : ℕ) : Type 0 where
  pub inside : at ≤ length s
  pub allowed : Allowed mode at (drop at s) f bytes items

-- a run from this place on that is accepted: its ranges, where it ends, and how many items were read of every datagram tried
pub data Run (mode : Mode) (s : List ℕ) : (at : ℕ) → Forest → (end items : ℕ) → Type 0 where
  -- the input ends here
  over : {at end n : ℕ} {g : Forest} → at ≡ length s → end ≡ at → n ≡ 0 → g ≡ bare → Run mode s at g end n
  -- a datagram is read here, and the run goes on where it ends
  next : {at end n : ℕ} {g : Forest} (f : Found) (bytes items : ℕ) (h : Forest) (m : ℕ) → DatagramAt mode s at f bytes items
      → n ≡ items + m → g ≡ f.ranges ⊕ h → Run mode s (at + bytes) h end m → Run mode s at g end n
  -- a datagram stops with code 2: the run ends before it, its items count, and it has no ranges
  cut : {at end n : ℕ} {g : Forest} → at < length s → (i : ℕ) → Stops (datagram mode) at (drop at s) 2 i n → end ≡ at → g ≡ bare → Run mode s at g end n

-- a run that is refused: a datagram in it stops with another code
pub data RunStops (mode : Mode) (s : List ℕ) : (at : ℕ) → (code i items : ℕ) → Type 0 where
  this : {at c i n : ℕ} → at < length s → Stops (datagram mode) at (drop at s) c i n → (c ≡ 2 → ⊥) → RunStops mode s at c i n
  later : {at c i n : ℕ} (f : Found) (bytes items m : ℕ) → DatagramAt mode s at f bytes items → n ≡ items + m → RunStops mode s (at + bytes) c i m → RunStops mode s at c i n
