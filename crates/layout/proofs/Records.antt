-- What a record answers that was read, or refused, or whose refusal was handed on. Assumes nothing.
use Rattle.std.proofs.Common.{ℕ, ◌≡◌, refl, sym, ap, List, Result, Ok, Err}
use Rattle.reading.specs.Script.{Value, Found}
use Rattle.reading.specs.Cursor.{Out, got, stop}
use Rattle.reading.specs.Layout.{Field}
use Rattle.reading.specs.Values.{zeros, valued}
use Rattle.reading.specs.Answer.{answered}
use Rattle.reading.proofs.Items.{never}
use Rattle.reading.proofs.Fields.{fields_out, reads_shown, halts_shown}
use Rattle.xdr.specs.declared.Cursor.{Cursor}
use Rattle.xdr.specs.declared.Outcome.{Outcome}
use Rattle.xdr.specs.declared.Refusal.{Refusal}
use Rattle.xdr.specs.Shown.{Answers, AnswersAfter, Passed, accepted, ended, passed_on, place, refusal}

module _ {l : List Field} {s : List ℕ} {o : Outcome} {us : List Value} where
  pub all_read : {p : Passed} {d : Cursor} → got us (place d) ≡ passed_on (fields_out l s) p → o ≡ accepted d → Answers l s p o us
  unfolding answered
  all_read {p = Ok c} e h = rw h (record { is = ap answered (reads_shown l s (place c) (sym e)) })
  all_read {p = Err x} e h = never (sym e)

  pub all_refused : {p : Passed} → stop o.code o.at o.steps ≡ passed_on (fields_out l s) p → us ≡ zeros l → Answers l s p o us
  unfolding answered valued
  all_refused {p = Ok c} e f = rw f (record { is = ap answered (halts_shown l s (place c) (sym e)) })
  all_refused {p = Err x} e f = rw f (record { is = ap (λ (t : Out Found). answered (valued l t)) (same e) })
    where
      same : ◌≡◌ {A = Out (List Value)} (stop o.code o.at o.steps) (refusal x) → ◌≡◌ {A = Out Found} (stop o.code o.at o.steps) (refusal x)
      same h = cc

  pub all_handed_on : {p : Result Cursor Outcome} {x : Outcome} → p ≡ Err x → o ≡ x → us ≡ zeros l → AnswersAfter l s p o us
  unfolding answered valued
  all_handed_on e h f = rw (e, h, f) (record { is = refl })

  pub all_ended : {x : Refusal} → o ≡ ended x → us ≡ zeros l → Answers l s (Err x) o us
  unfolding answered valued
  all_ended h f = rw (h, f) (record { is = refl })
