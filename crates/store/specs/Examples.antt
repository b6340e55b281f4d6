-- Made by tests/examples/make: a descriptor by the names of its fields, and its words in the store. Assumes nothing.
use Rattle.std.specs.Prelude.{◌≡◌, refl, [], ◌∷◌}
use Rattle.reading.specs.Answer.{row_of}
use Rattle.store.specs.Written.{range_of}
use Rattle.store.specs.declared.Descriptor.{Descriptor}

pub a_descriptor : Descriptor
a_descriptor = record { kind = 11; format = record { 0 = 12 }; start = 13; length = 14; parent = 15; depth = 16; first = 17 }

pub the_descriptor_holds : row_of a_descriptor.parent (range_of a_descriptor) ≡ 11 ∷ 12 ∷ 13 ∷ 14 ∷ 15 ∷ 16 ∷ 17 ∷ []
unfolding a_descriptor
the_descriptor_holds = refl
