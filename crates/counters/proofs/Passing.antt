-- Fixed layouts that are passed, all at once or item by item. Assumes nothing.
use Rattle.std.proofs.Common.{ℕ, suc, ◌+◌, ◌≡◌, ◌≤◌, refl, sym, ap, ◌∙◌, Bool, true, false, cond, List, [], ◌∷◌, length}
use lib.Dec.{eqb, leb}
use Rattle.reading.specs.Script.{Value, number, nothing, Script, give}
use Rattle.reading.specs.Cursor.{Place, Out, got, stop, on, fixed, read_item, then, follow}
use Rattle.reading.specs.Layout.{Size, u32, u64, size_of, sized, widths, total, Fixed, fields, opened, fixed_rows, counters}
use Rattle.reading.proofs.Fields.{field_out, fields_out}
use Rattle.reading.proofs.Stands.{place}
use Rattle.reading.proofs.Widths.{number_at, widths_got}
use Rattle.layout.specs.Passing.{passing}
use Rattle.layout.proofs.Passing.{passing_is}
use Rattle.counters.specs.declared.data.Width.{Width}
use Rattle.counters.specs.Sizes.{sizes, sizes_at, sizes_of}

module _ (z : Size) (s : List ℕ) (p : Place) where
  -- an item of this width that is passed
  pub width_passes : fixed (size_of z) nothing s p ≡ passing (sized z ∷ []) s p
  unfolding fixed fields_out field_out read_item
  width_passes = go (leb (p.at + size_of z) (length s)) ∙ ap (λ (o : Out Value). then (then o (λ v q. then (got [] q) (λ vs e. got (v ∷ vs) e))) (λ vs q. got nothing q)) (sym (sized_is z))
    where
      go : (b : Bool) → cond b (got nothing (on (size_of z) p)) (stop 2 p.at p.steps)
          ≡ then (then (cond b (got (number (number_at z s p.at)) (on (size_of z) p)) (stop 2 p.at p.steps)) (λ v q. then (got [] q) (λ vs e. got (v ∷ vs) e))) (λ vs q. got nothing q)
      go true = refl
      go false = refl

      sized_is : (y : Size) → field_out (sized y) s p ≡ fixed (size_of y) (number (number_at y s p.at)) s p
      sized_is u32 = refl
      sized_is u64 = refl

pub all_pass : (l : List Size) (s : List ℕ) (p : Place) → p.at + total l ≤ length s → got nothing (place (p.at + total l) (p.steps + length l)) ≡ passing (widths l) s p
all_pass l s p h = sym (rw (widths_got s l p h))

pub as_many : (l : List Width) → length (sizes l) ≡ length l
as_many [] = refl
as_many (w ∷ l) = ap (λ (n : ℕ). suc n) (as_many l)

-- what the table opens is the layout of these widths
opened_at : (t : List Fixed) (f : ℕ) → opened (fixed_rows t) f ≡ fields (widths (sizes_at t f)) (λ vs. give nothing)
unfolding opened fields
opened_at [] f = refl
opened_at (x ∷ t) f = go (eqb x.format f) (opened_at t f)
  where
    go : (b : Bool) → opened (fixed_rows t) f ≡ fields (widths (sizes_at t f)) (λ vs. give nothing)
        → cond b (fields (widths x.sizes) (λ vs. give nothing)) (opened (fixed_rows t) f) ≡ fields (widths (cond b x.sizes (sizes_at t f))) (λ vs. give nothing)
    go true e = refl
    go false e = e

pub counter_passed : (f : ℕ) (s : List ℕ) (p : Place) → passing (widths (sizes_of f)) s p ≡ follow (opened (fixed_rows counters) f) s p
unfolding sizes_of
counter_passed f s p = sym (passing_is _ s p) ∙ ap (λ (x : Script). follow x s p) (sym (opened_at counters f))
