-- What the payload of a flow record that is no aggregation holds: the fields of its layout, and nothing behind them. Assumes nothing.
use Rattle.std.proofs.Common.{ℕ, ◌≡◌, refl, sym, Bool, true, false, cond, List, [], ◌∷◌}
use borrow.Author.Tests.{ne_eqb}
use lib.Dec.{eqb}
use Rattle.reading.specs.Script.{give, nothing}
use Rattle.reading.specs.Layout.{Field, Mode, Row, ◌⟼◌, fields, flows, opened}
use Rattle.reading.specs.Answer.{layout_at, layout_of}

-- rows that hold nothing behind their fields, but for those of another format
data Flat (f : ℕ) : List Row → Type 0 where
  none : Flat f []
  flat : {g : ℕ} {l : List Field} {rest : List Row} → Flat f rest → Flat f ((g ⟼ l) ∷ rest)
  other : {r : Row} {rest : List Row} → (r.format ≡ f → ⊥) → Flat f rest → Flat f (r ∷ rest)

opened_flat : (f : ℕ) (rows : List Row) → Flat f rows → opened rows f ≡ fields (layout_at rows f) (λ vs. give nothing)
unfolding opened fields
opened_flat f rows none = refl
opened_flat f rows (flat {g} {l} {rest} t) = go (eqb g f) (opened_flat f rest t)
  where
    go : (b : Bool) → opened rest f ≡ fields (layout_at rest f) (λ vs. give nothing) → cond b (fields l (λ vs. give nothing)) (opened rest f) ≡ fields (cond b l (layout_at rest f)) (λ vs. give nothing)
    go true h = refl
    go false h = h
opened_flat f rows (other {r} {rest} n t) = rw (ne_eqb r.format f n) (opened_flat f rest t)

pub flow_opened : (mode : Mode) (f : ℕ) → (f ≡ 1016 → ⊥) → opened (flows mode (give nothing)) f ≡ fields (layout_of mode 2 f) (λ vs. give nothing)
unfolding layout_of flows
flow_opened mode f n = opened_flat f _ (search (none, flat, other, λ (e : 1016 ≡ f). n (sym e)) depth 48)
