-- An opaque that was read, and its payload as what encloses the reader inside it; and of so many in a row, those before the one that stops.
-- Assumes nothing.
use Prim.Native.Nat.{ℕ, zero, suc, ◌+◌, ◌≤◌, ◌<◌}
use mathlib.Core.Path.{◌≡◌, refl, sym, ap, ◌∙◌}
use mathlib.Core.List.{List}
use native.Mathlib.Omega.{arith}
use lib.ListN.{length, take, drop, length-append}
use lib.Seq.{length-take-le}
use Rattle.reading.specs.Script.{Span, part, Found, nothing, ◌⊞◌, opaque}
use Rattle.reading.specs.Cursor.{Place, Out, got, stop, Reader, then, read_opaque, read_item, times}
use Rattle.reading.specs.Grammar.{Opaque, IsItem}
use Rattle.reading.proofs.Items.{never}
use Rattle.reading.proofs.Stands.{Stands, payload_there, bytes_there, drop_take}
use Rattle.demands.proofs.Pieces.{ItemThere, item_there}

-- an opaque that was read, from p to q: its payload is what stands at the span
pub record SpanThere (s : List ℕ) (p : Place) (x : Span) (q : Place) : Type 0 where
  pub payload : List ℕ
  pub read : List ℕ
  pub rest : List ℕ
  pub stands : Stands s p.at read rest
  pub at : q.at ≡ p.at + length read
  pub steps : q.steps ≡ p.steps + 1
  pub is : Opaque payload read
  pub span : x ≡ record { start = p.at + 4; count = length payload }

pub span_there : (s : List ℕ) (p : Place) (x : Span) (q : Place) → read_opaque s p ≡ got x q → SpanThere s p x q
unfolding read_item IsItem
span_there s p x q e = let t = item_there opaque s p (part x) q (rw e) in go t t.is
  where
    go : (t : ItemThere opaque s p (part x) q) → (y : List ℕ) × Opaque y t.read × (part x ≡ part (record { start = p.at + 4; count = length y })) → SpanThere s p x q
    go t (y, o, v) = record { payload = y; read = t.read; rest = t.rest; stands = t.stands; at = t.at; steps = t.steps; is = o; span = cc }

-- it is longer than its payload by a word at least
pub opaque_long : {x u : List ℕ} → Opaque x u → 4 + length x ≤ length u
opaque_long {x} q = let e = ap length q.joined in omega (arith, simp length-append at e, q.four)

-- its payload, as what encloses the reader inside
module _ {s : List ℕ} {p q : Place} {x : Span} (t : SpanThere s p x q) where
  pub payload_stands : Stands s (p.at + 4) t.payload (payload_there p.at t.is t.stands).0
  payload_stands = (payload_there p.at t.is t.stands).1

  unfoldable pub held : List ℕ
  held = take (p.at + 4 + length t.payload) s

  pub held_is : drop (p.at + 4) held ≡ t.payload
  unfolding held
  held_is = drop_take (p.at + 4) (length t.payload) s ∙ bytes_there (p.at + 4) payload_stands

  pub held_fits : p.at + 4 ≤ length held
  unfolding held
  held_fits = rw (length-take-le (p.at + 4 + length t.payload) s payload_stands.fits) (omega arith)

-- of so many in a row, those before the one that stops
pub record Some (r : Reader Found) (s : List ℕ) (p : Place) (c : ℕ) (code at n : ℕ) : Type 0 where
  pub count : ℕ
  pub fewer : count < c
  pub found : Found
  pub last : Place
  pub before : times count r s p ≡ got found last
  pub here_it : r s last ≡ stop code at n

pub some : (r : Reader Found) (s : List ℕ) (c : ℕ) (p : Place) (code at n : ℕ) → times c r s p ≡ stop code at n → Some r s p c code at n
unfolding times
some r s zero p code at n e = never (sym e)
some r s (suc c) p code at n e = go (λ q. some r s c q code at n) (r s p) refl e
  where
    go : ((q : Place) → times c r s q ≡ stop code at n → Some r s q c code at n) → (o : Out Found) → r s p ≡ o
        → then o (λ a q. then (times c r s q) (λ b i. got (a ⊞ b) i)) ≡ stop code at n → Some r s p (suc c) code at n
    go again (stop d b m) f e = record { count = 0; fewer = omega arith; found = nothing; last = p; before = refl; here_it = f ∙ e }
    go again (got a q) f e = more (times c r s q) refl e
      where
        more : (o : Out Found) → times c r s q ≡ o → then o (λ b i. got (a ⊞ b) i) ≡ stop code at n → Some r s p (suc c) code at n
        more (got b i) g e = never (sym e)
        more (stop d b m) g e =
            let t = again q (g ∙ e) in
            record { count = suc t.count; fewer = omega (arith, t.fewer); found = a ⊞ t.found; last = t.last; before = rw (f, t.before); here_it = t.here_it }
