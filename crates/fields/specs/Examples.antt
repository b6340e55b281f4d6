-- Made by tests/examples/make, from the memo's structures: a word of a list, and what is asked of a descriptor, by the names of their fields, as the
-- examples of `reading` have them. Assumes nothing.
use Rattle.std.specs.Prelude.{ℕ, ◌≡◌, refl, true, false, List, [], ◌∷◌, map}
use Rattle.reading.specs.Examples.{Result, of_word, Example, list_words}
use Rattle.reading.specs.Layout.{Mode}
use Rattle.reading.specs.Answer.{read}
use Rattle.fields.specs.Shown.{read_at, listed}
use Rattle.fields.specs.declared.lists.Listed.{Listed}

-- the word with index 1 of a list of two
listed_1 : Listed
listed_1 = record { present = true; value = 0x15161718 }

-- the word with index 2 of a list of two
listed_2 : Listed
listed_2 = record { present = false; value = 0 }

-- what they are in the terms of the reading
pub shown : List Result
unfolding listed_1 listed_2
shown =
    of_word (listed listed_1)
    ∷ of_word (listed listed_2)
    ∷ []

pub the_names_hold : shown ≡ map (λ (e : Example). e.result) list_words
unfolding shown list_words
the_names_hold = refl

-- a descriptor's words, as they are handed in: kind, format, start and length are what is asked
pub the_descriptor_holds : (mode : Mode) (s : List ℕ) → read_at mode 1 2 s (11 ∷ 12 ∷ 13 ∷ 14 ∷ 15 ∷ 16 ∷ 17 ∷ []) ≡ read mode 1 2 s 11 12 13 14
the_descriptor_holds mode s = refl
