-- A row that is passed, field by field. Assumes nothing.
use Rattle.std.proofs.Common.{ℕ, ◌≡◌, refl, sym, ap, ◌∙◌, List, ◌++◌, Ok, Err}
use Rattle.reading.specs.Script.{Value, nothing, give}
use Rattle.reading.specs.Cursor.{Place, Out, got, stop, then, times, follow}
use Rattle.reading.specs.Layout.{Field, any_word, fields, words}
use Rattle.reading.proofs.Items.{never}
use Rattle.reading.proofs.Fields.{fields_out, fields_append, fields_then, then_then}
use Rattle.reading.proofs.Words.{run_row, run_cut}
use Rattle.xdr.specs.declared.Cursor.{Cursor}
use Rattle.xdr.specs.Shown.{Inside, Passed, passed_out, place}
use Rattle.layout.specs.Passing.{passing}
use Rattle.layout.proofs.Laws.{after_script}

pub passed_words : (n : ℕ) (s : List ℕ) (c : Cursor) (p : Passed) → Inside s c → passed_out p nothing ≡ times n (follow any_word) s (place c) → passed_out p nothing ≡ passing (words n) s (place c)
passed_words n s c (Ok d) i e = sym (rw (run_row s n (place c) i.inside e).1)
passed_words n s c (Err x) i e = sym (rw (run_cut s n (place c) i.inside e))

module _ (l m : List Field) (s : List ℕ) (p : Place) where
  both : {o : Out (List Value)} → fields_out l s p ≡ o → passing (l ++ m) s p ≡ then o (λ vs q. passing m s q)
  both {o} e = ap (λ (t : Out (List Value)). then t (λ vs q. got nothing q)) (fields_append l m s p ∙ rw e) ∙ go o
    where
      go : (o : Out (List Value)) → then (then o (λ vs q. then (fields_out m s q) (λ ws e. got (vs ++ ws) e))) (λ vs q. got nothing q) ≡ then o (λ vs q. passing m s q)
      go (got vs q) = then_then (fields_out m s q) _ _
      go (stop c a n) = refl

  pub pass_on : {q : Place} → got nothing q ≡ passing l s p → passing m s q ≡ passing (l ++ m) s p
  pass_on {q} e = go (fields_out l s p) refl e
    where
      go : (o : Out (List Value)) → fields_out l s p ≡ o → got nothing q ≡ then o (λ vs r. got nothing r) → passing m s q ≡ passing (l ++ m) s p
      go (got vs r) f h = let z : q ≡ r = cc in rw z (sym (both f))
      go (stop c a n) f h = never (sym h)

  pub pass_stop : {c a n : ℕ} → stop c a n ≡ passing l s p → stop c a n ≡ passing (l ++ m) s p
  pass_stop {c} {a} {n} e = go (fields_out l s p) refl e
    where
      go : (o : Out (List Value)) → fields_out l s p ≡ o → stop c a n ≡ then o (λ vs r. got nothing r) → stop c a n ≡ passing (l ++ m) s p
      go (got vs r) f h = never h
      go (stop c' a' n') f h = h ∙ sym (both f)

-- as a script
pub passing_is : (l : List Field) (s : List ℕ) (p : Place) → follow (fields l (λ vs. give nothing)) s p ≡ passing l s p
unfolding follow
passing_is l s p = fields_then l _ s p

pub after_row : (l : List Field) (s : List ℕ) (c : Cursor) → Inside s c → {d : Cursor} → got nothing (place d) ≡ passing l s (place c) → Inside s d
after_row l s c i e = after_script s c i (fields l (λ vs. give nothing)) (e ∙ sym (passing_is l s (place c)))
