-- A fixed layout that was passed is all there, with the numbers that its fields are; and one that was not is refused as its fields are. Assumes nothing.
use Rattle.std.proofs.Common.{ℕ, ◌+◌, ◌≡◌, ◌≤◌, refl, sym, ◌∙◌, Bool, true, false, List, [], ◌∷◌, length, arith}
use borrow.Author.Tests.{leb-true, leb-false}
use lib.Dec.{leb}
use Rattle.reading.specs.Script.{Value, nothing}
use Rattle.reading.specs.Cursor.{Place, Out, got, stop, on, then}
use Rattle.reading.specs.Layout.{Size, size_of, widths, total}
use Rattle.reading.proofs.Fields.{fields_out}
use Rattle.reading.proofs.Items.{never}
use Rattle.reading.proofs.Stands.{place}
use Rattle.reading.proofs.Widths.{numbers, widths_got, widths_cut, widths_halt}
use Rattle.layout.specs.Passing.{passing}

-- the place of what was read
abbrev place_of : Out (List Value) → Place
place_of (got vs q) = q
place_of (stop c a n) = place a n

module _ (s : List ℕ) where
  module _ (z : Size) (l : List Size) (p q : Place) (e : got nothing q ≡ passing (widths (z ∷ l)) s p) where
    first_there : p.at + size_of z ≤ length s
    first_there = go (leb (p.at + size_of z) (length s)) refl
      where
        go : (b : Bool) → leb (p.at + size_of z) (length s) ≡ b → p.at + size_of z ≤ length s
        go true t = omega (arith, leb-true)
        go false t =
            let f = widths_cut s z l p (omega (arith, leb-false)) in
            let g : got nothing q ≡ stop 2 p.at p.steps = e ∙ rw f in
            never (sym g)

    rest_passed : (o : Out (List Value)) → fields_out (widths l) s (on (size_of z) p) ≡ o → p.at + size_of z ≤ length s → got nothing (place_of o) ≡ passing (widths l) s (on (size_of z) p)
    rest_passed (got vs r) f h = sym (rw f)
    rest_passed (stop c a n) f h =
        let g : got nothing q ≡ stop c a n = e ∙ rw (widths_halt s z l p h f) in
        never (sym g)

  all_there : (l : List Size) (p q : Place) → p.at ≤ length s → got nothing q ≡ passing (widths l) s p → p.at + total l ≤ length s
  all_there [] p q i e = omega arith
  all_there (z ∷ l) p q i e =
      let h = first_there z l p q e in
      let k = all_there l (on (size_of z) p) _ h (rest_passed z l p q e _ refl h) in
      omega arith

  module _ (l : List Size) (p : Place) where
    pub there : {q : Place} → p.at ≤ length s → got nothing q ≡ passing (widths l) s p → (got (numbers l s p.at) q ≡ fields_out (widths l) s p) × (p.at + total l ≤ length s)
    there {q} i e =
        let h = all_there l p q i e in
        let f = widths_got s l p h in
        let y : got nothing q ≡ got nothing (place (p.at + total l) (p.steps + length l)) = e ∙ rw f in
        let z : q ≡ place (p.at + total l) (p.steps + length l) = cc in
        (rw z (sym f), h)

    pub not_there : {c a n : ℕ} → stop c a n ≡ passing (widths l) s p → stop c a n ≡ fields_out (widths l) s p
    not_there {c} {a} {n} e = go (fields_out (widths l) s p) e
      where
        go : (o : Out (List Value)) → stop c a n ≡ then o (λ vs q. got nothing q) → stop c a n ≡ o
        go (got vs r) g = never g
        go (stop c' a' n') g = cc
