-- Where a frame lies. Assumes nothing.
use Prim.Native.Nat.{ℕ, ◌+◌, ◌≤◌}
use mathlib.Core.Path.{◌≡◌, sym, ap, ◌∙◌}
use mathlib.Core.List.{List}
use native.Mathlib.Omega.{arith}
use lib.ListN.{length}
use Rattle.reading.specs.Bytes.{be4}
use Rattle.reading.specs.Script.{Span, Value, number, word}
use Rattle.reading.specs.Cursor.{Place, got, read_opaque, read_item}
use Rattle.reading.proofs.Items.{split, fixed_read, OpaqueRead, opaque_read}
use Rattle.reading.proofs.Counts.{frame_at, framing, Framing}

-- ---- where a frame lies

pub record FramedAt (s : List ℕ) (p : Place) (x : Span) (q : Place) : Type 0 where
  pub start : x.start ≡ p.at + 8
  pub end : x.start + x.count ≤ q.at
  pub fits : q.at ≤ length s
  pub steps : q.steps ≡ p.steps + 2

pub framing_lies : {f : ℕ} {x : Span} {q : Place} (s : List ℕ) (p : Place) → got (framing f x) q ≡ frame_at s p → FramedAt s p x q
unfolding frame_at read_item
framing_lies {f} {x} {q} s p e =
    let w = split (read_item word s p) _ (sym e) in
    let v = split (read_opaque s w.place) _ w.second in
    lies w.place v.value v.place (fixed_read 4 (number (be4 s p.at)) s p w.first) (opaque_read s w.place v.value v.place v.first) v.second
  where
    lies : {v : Value} {g : ℕ} (w : Place) (y : Span) (r : Place) → (p.at + 4 ≤ length s) × (v ≡ number (be4 s p.at)) × (w.at ≡ p.at + 4) × (w.steps ≡ p.steps + 1)
        → OpaqueRead s w y r → got (framing g y) r ≡ got (framing f x) q → FramedAt s p x q
    lies {v} {g} w y r h o k =
        let z : framing g y ≡ framing f x = cc in
        let i : y ≡ x = ap (λ (t : Framing). t.span) z in
        let j : r ≡ q = cc in
        rw (← i, ← j) (record {
          start = o.start ∙ rw h.2 (omega arith);
          end = omega (arith, o.start, o.at);
          fits = omega (arith, o.at, o.fits);
          steps = o.steps ∙ rw h.3 (omega arith);
        })
