-- The two calls that read an input into a store. Definitions only. Assumes nothing.
use Rattle.std.specs.Prelude.{List, ℕ}
use Rattle.reading.specs.Answer.{Answer, one, run}
use Rattle.reading.specs.Layout.{Mode}
use Rattle.demands.specs.Itemised.{Subject, a_datagram, a_run}

-- what is answered to an input and a store
abbrev pub Call : Type 0
Call = (input store : List ℕ) → Answer

-- `decode` answers `one`, and `decode_run` answers `run`
pub data Public (mode : Mode) : Subject → Call → Type 1 where
  decode : Public mode (a_datagram mode) (one mode)
  decode_run : Public mode (a_run mode) (run mode)
