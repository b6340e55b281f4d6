-- Demands 2 and 3 as predicates of a call: what is demanded of whatever reads such a subject, in the grammar's words. Definitions only. Assumes nothing.
use Rattle.std.specs.Prelude.{ℕ, ◌/◌, ◌≤◌, ◌≡◌, ◌↔◌, List, length}
use Rattle.reading.specs.Answer.{room, Answer}
use Rattle.reading.specs.Sizes.{longest_input}
use Rattle.demands.specs.Itemised.{Subject, Accepted, Itemised}
use Rattle.demands.specs.Calls.{Call}

module _ (t : Subject) (f : Call) where
  -- demand 2, "exactly when": an input within the limit is accepted into a store for a quarter of its length exactly when there is a reading of it
  abbrev pub AcceptsExactly : Type 0
  AcceptsExactly = (s w : List ℕ) → length s ≤ longest_input → length s / 4 ≤ room w → ((f s w).code ≡ 0) ↔ ((x : t.Finding) × (end items : ℕ) × t.Whole s x end items)

  -- demand 2, "descriptors are that reading": what is accepted is answered by a reading of it: its header, its descriptors, and where it ends
  abbrev pub AnswersReading : Type 0
  AnswersReading = (s w : List ℕ) → (f s w).code ≡ 0 → Accepted t s w (f s w)

  -- demand 3: the steps are the items of the reading up to where it stopped, as an answer has them that says what the reading is
  abbrev pub CountsItems : Type 0
  CountsItems = (s w : List ℕ) → (a : Answer) × Itemised t s w a × ((f s w).steps ≡ a.steps)
