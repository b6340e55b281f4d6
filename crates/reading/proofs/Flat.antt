-- A record that is no aggregation holds no range. Assumes nothing.
use Prim.Native.Nat.{ℕ}
use mathlib.Core.Path.{◌≡◌, refl, sym, ap, ◌∙◌}
use mathlib.Core.Bool.{Bool, true, false, cond}
use mathlib.Core.List.{List, [], ◌∷◌}
use borrow.Author.Tests.{ne_eqb}
use lib.Dec.{eqb}
use Rattle.reading.specs.Script.{Value, bare, nothing, Script, give}
use Rattle.reading.specs.Cursor.{Place, Out, got, stop, then, follow}
use Rattle.reading.specs.Layout.{Mode, Field, fields, Row, opened, Fixed, fixed_rows, flows}
use Rattle.reading.proofs.Fields.{fields_out, fields_then}
use Rattle.reading.proofs.Places.{ranges_of}

-- ---- a record that is no aggregation holds no range
data Flat (f : ℕ) : List Row → Type 0 where
  none : Flat f []
  flat : {r : Row} {rest : List Row} → r.more ≡ (λ _. give nothing) → Flat f rest → Flat f (r ∷ rest)
  not_this : {r : Row} {rest : List Row} → (f ≡ r.format → ⊥) → Flat f rest → Flat f (r ∷ rest)

bare_fields : (l : List Field) (s : List ℕ) (p : Place) → ranges_of (follow (fields l (λ _. give nothing)) s p) ≡ bare
unfolding ranges_of follow
bare_fields l s p = ap ranges_of (fields_then l (λ _. give nothing) s p) ∙ go (fields_out l s p)
  where
    go : (o : Out (List Value)) → ranges_of (then o (λ vs q. got nothing q)) ≡ bare
    go (got vs q) = refl
    go (stop c a n) = refl

bare_opened : (f : ℕ) (rows : List Row) → Flat f rows → (s : List ℕ) (p : Place) → ranges_of (follow (opened rows f) s p) ≡ bare
unfolding opened ranges_of follow
bare_opened f rows none s p = refl
bare_opened f rows (flat {r} {rest} e t) s p = go (eqb r.format f) (bare_opened f rest t s p)
  where
    go : (b : Bool) → ranges_of (follow (opened rest f) s p) ≡ bare → ranges_of (follow (cond b (fields r.layout r.more) (opened rest f)) s p) ≡ bare
    go true h = ap (λ (m : List Value → Script). ranges_of (follow (fields r.layout m) s p)) e ∙ bare_fields r.layout s p
    go false h = h
bare_opened f rows (not_this {r} {rest} z t) s p = rw (ne_eqb r.format f (λ e. z (sym e))) (bare_opened f rest t s p)

pub fixed_bare : (t : List Fixed) (f : ℕ) (s : List ℕ) (p : Place) → ranges_of (follow (opened (fixed_rows t) f) s p) ≡ bare
fixed_bare t f s p = bare_opened f (fixed_rows t) (go t) s p
  where
    go : (t : List Fixed) → Flat f (fixed_rows t)
    go [] = none
    go (x ∷ t) = flat refl (go t)

pub other_bare : (mode : Mode) (inner : Script) (f : ℕ) (s : List ℕ) (p : Place) → (f ≡ 1016 → ⊥) → ranges_of (follow (opened (flows mode inner) f) s p) ≡ bare
unfolding flows
other_bare mode inner f s p z = bare_opened f (flows mode inner) (search (flat, not_this, none) depth 200) s p
