-- Made by tests/examples/make, from the memo's structures: the segments of an AS path by the names of their fields, as the
-- examples of `reading` have them. Assumes nothing.
use Rattle.std.specs.Prelude.{◌≡◌, refl, List, [], ◌∷◌, map}
use Rattle.reading.specs.Examples.{Result, of_fields, Example, segments}
use Rattle.xdr.specs.Shown.{answer_of}
use Rattle.layout.specs.declared.record.Reading.{Reading}
use Rattle.layout.specs.Shown.{a_segment}
use Rattle.layout.specs.declared.lists.Segment.{Segment}

-- a segment of an AS path
segment : Reading Segment
segment = record { outcome = record { code = 0; at = 20; steps = 4 }; fields = record { kind = 1; path = record { start = 12; count = 2 } } }

-- what they are in the terms of the reading
pub shown : List Result
unfolding segment
shown =
    of_fields (answer_of segment.outcome (a_segment segment.fields))
    ∷ []

pub the_names_hold : shown ≡ map (λ (e : Example). e.result) segments
unfolding shown segments
the_names_hold = refl
