-- What is shown of a word of a list and of a segment loses nothing: it is got back from that. Assumes nothing.
use Rattle.std.proofs.Common.{ℕ, ◌≡◌, refl, cond, Option, Some, None}
use Rattle.reading.specs.Answer as answer
use Rattle.reading.specs.Answer.{Fields}
use Rattle.xdr.specs.Shown.{answer_of}
use Rattle.xdr.proofs.Settles.{Lossless, got_back}
use Rattle.xdr.proofs.Lossless.{outcome_of, word_at, range_at}
use Rattle.layout.specs.declared.lists.Segment.{Segment}
use Rattle.layout.specs.declared.record.Reading.{Reading}
use Rattle.layout.specs.Shown.{a_segment}
use Rattle.fields.specs.Shown.{a_word, listed}

pub listed_lossless : Lossless listed
listed_lossless = got_back (λ (x : answer.Listed). record { present = x.present; value = x.value }) (λ r. refl)

pub word_lossless : Lossless a_word
word_lossless = got_back (λ (x : answer.Listed). cond x.present (Some x.value) None) same
  where
    same : (w : Option ℕ) → cond (a_word w).present (Some (a_word w).value) None ≡ w
    same (Some v) = refl
    same None = refl

pub segment_lossless : Lossless (λ (r : Reading Segment). answer_of r.outcome (a_segment r.fields))
segment_lossless = got_back (λ (x : Fields). record { outcome = outcome_of x; fields = record { kind = word_at x 0; path = range_at x 1 } }) (λ r. refl)
