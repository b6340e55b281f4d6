-- The codes of the rules (docs/RULES.md, 5), by the call that may answer them. Definitions only. Assumes nothing.
use Rattle.std.specs.Prelude.{ℕ, List, [], ◌∷◌}

-- one datagram
abbrev pub one_codes : List ℕ
one_codes = 0 ∷ 1 ∷ 2 ∷ 3 ∷ 4 ∷ 5 ∷ 6 ∷ 7 ∷ 8 ∷ 9 ∷ []

-- a run: 2 ends it, with code 0
abbrev pub run_codes : List ℕ
run_codes = 0 ∷ 1 ∷ 3 ∷ 4 ∷ 5 ∷ 6 ∷ 7 ∷ 8 ∷ 9 ∷ []

-- field reading: no record begins in it, and it writes no store
abbrev pub field_codes : List ℕ
field_codes = 0 ∷ 1 ∷ 2 ∷ 3 ∷ 4 ∷ 5 ∷ 6 ∷ 7 ∷ 10 ∷ 11 ∷ []

-- so it is of each number of a table
pub data Each (P : ℕ → Type 0) : List ℕ → Type 0 where
  none : Each P []
  also : {c : ℕ} {rest : List ℕ} → P c → Each P rest → Each P (c ∷ rest)
