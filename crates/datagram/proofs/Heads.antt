-- A header that is passed, from what each of its fields answers. Assumes nothing.
use Rattle.std.proofs.Common.{ℕ, ◌≡◌, refl, List}
use Rattle.reading.specs.Script.{Value}
use Rattle.reading.specs.Cursor.{Place, Out, got, stop}
use Rattle.reading.specs.Layout.{version, addr, words}
use Rattle.reading.proofs.Fields.{field_out, fields_out}
use Rattle.datagram.specs.Shown.{heads}

module _ (s : List ℕ) (p : Place) where
  pub heads_stop : {c a m : ℕ} → stop c a m ≡ field_out version s p → stop c a m ≡ heads s p
  unfolding fields_out
  heads_stop e = rw (← e) refl

  module _ {v : Value} {q : Place} (e : got v q ≡ field_out version s p) where
    pub heads_halt : {c a m : ℕ} → stop c a m ≡ field_out addr s q → stop c a m ≡ heads s p
    unfolding fields_out
    heads_halt f = rw (← e, ← f) refl

    pub heads_words : {b : Value} {r : Place} {o : Out (List Value)} → got b r ≡ field_out addr s q → fields_out (words 4) s r ≡ o → o ≡ heads s p
    unfolding fields_out
    heads_words f g = rw (← e, ← f, ← g) refl
