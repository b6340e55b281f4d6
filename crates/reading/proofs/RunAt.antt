-- A run that goes on, taken apart: its first datagram, and the rest. Assumes nothing.
use Prim.Native.Nat.{ℕ, ◌≤◌, ◌<◌}
use mathlib.Core.Bool.{Bool, true, false, cond}
use mathlib.Core.Path.{◌≡◌, refl, sym, ap, ◌∙◌, subst}
use mathlib.Core.List.{List}
use native.Mathlib.Omega.{arith}
use borrow.Author.Tests.{leb-true, leb-false}
use lib.Dec.{eqb, leb}
use lib.ListN.{length}
use Rattle.reading.specs.Script.{Forest, bare, ◌⊕◌, Found, nothing}
use Rattle.reading.specs.Cursor.{Place, Out, got, stop, then, follow}
use Rattle.reading.specs.Layout.{Mode, only, datagram}
use Rattle.reading.specs.Sizes.{depth_limit}
use Rattle.reading.specs.Answer.{from, run_ender, tried}
use Rattle.reading.proofs.Items.{split}
use Rattle.reading.proofs.Room.{last_place, datagram_on}
use Rattle.reading.proofs.Places.{Accepted, accepted, ranges_of, end_of, stopped, given, alike_accepted, alike_ranges, alike_end}
use Rattle.reading.proofs.Runs.{run_from, steady_run, thrifty_datagrams, forward_run, run_over, run_on}

-- ---- a run that goes on, taken apart
pub record RunAt (mode : Mode) (s : List ℕ) (at : ℕ) : Type 0 where
  pub first : Accepted (follow (datagram mode) s (from at))
  pub rest : Accepted (run_from mode s (from (end_of (follow (datagram mode) s (from at)))))
  pub ranges : ranges_of (run_from mode s (from at)) ≡ ranges_of (follow (datagram mode) s (from at)) ⊕ ranges_of (run_from mode s (from (end_of (follow (datagram mode) s (from at)))))
  pub end : end_of (run_from mode s (from at)) ≡ end_of (run_from mode s (from (end_of (follow (datagram mode) s (from at)))))

module _ (mode : Mode) (s : List ℕ) (at : ℕ) (i : at ≤ length s) (g : Accepted (run_from mode s (from at))) where
  -- what a datagram that was not read leaves of a run
  ended : (c a n : ℕ) → Accepted (tried (stop c a n) (from at) (run_from mode s)) → tried (stop c a n) (from at) (run_from mode s) ≡ got nothing (record { at = at; steps = n })
  unfolding tried
  ended c a n h = go (eqb c run_ender) h
    where
      go : (b : Bool) → Accepted (cond b (got nothing (record { at = at; steps = n })) (stop c a n)) → cond b (got nothing (record { at = at; steps = n })) (stop c a n) ≡ got nothing (record { at = at; steps = n })
      go true h = refl
      go false h = absurd (stopped h)

  pub run_lies : at < end_of (run_from mode s (from at)) → RunAt mode s at
  unfolding end_of ranges_of tried
  run_lies h =
      let f = forward_run mode s at i g in
      let j : at < length s = omega (arith, f) in
      go (follow (datagram mode) s (from at)) refl (run_on mode s (from at) j)
    where
      go : (o : Out Found) → follow (datagram mode) s (from at) ≡ o → run_from mode s (from at) ≡ tried o (from at) (run_from mode s) → RunAt mode s at
      go (stop c a n) e r =
          let x = ended c a n (subst Accepted r g) in
          let z : end_of (run_from mode s (from at)) ≡ at = ap end_of (r ∙ x) in
          absurd (omega (arith, h, z))
      go (got d q) e r =
          let t = given (run_from mode s (from at)) g in
          let v = split (run_from mode s q) _ (sym r ∙ t.is) in
          let k = steady_run mode s q (from q.at) refl in
          let w : Accepted (run_from mode s q) = subst Accepted (sym v.first) accepted in
          let x : v.value.ranges ≡ ranges_of (run_from mode s (from q.at)) = ap ranges_of (sym v.first) ∙ alike_ranges k in
          let y : v.place.at ≡ end_of (run_from mode s (from q.at)) = ap end_of (sym v.first) ∙ alike_end k w in
          let l : run_from mode s (from at) ≡ got (only (d.ranges ⊕ v.value.ranges)) v.place = r ∙ ap (λ (o : Out Found). then o (λ f e. got (only (d.ranges ⊕ f.ranges)) e)) v.first in
          parts q.at (ap end_of e) (alike_accepted k w)
          (ap ranges_of l ∙ ap (λ (f : Forest). d.ranges ⊕ f) x ∙ ap (λ (f : Forest). f ⊕ ranges_of (run_from mode s (from q.at))) (sym (ap ranges_of e)))
          (ap end_of l ∙ y)
        where
          parts : (m : ℕ) → end_of (follow (datagram mode) s (from at)) ≡ m → Accepted (run_from mode s (from m))
              → ranges_of (run_from mode s (from at)) ≡ ranges_of (follow (datagram mode) s (from at)) ⊕ ranges_of (run_from mode s (from m)) → end_of (run_from mode s (from at)) ≡ end_of (run_from mode s (from m)) → RunAt mode s at
          parts m z x y w = record { first = subst Accepted (sym e) accepted; rest = rw (← z) at x; ranges = rw (← z) at y; end = rw (← z) at w }

  -- and one that ends here
  pub run_bare : end_of (run_from mode s (from at)) ≤ at → ranges_of (run_from mode s (from at)) ≡ bare
  unfolding ranges_of end_of run_from tried
  run_bare h = go (leb (length s) at) refl
    where
      tries : (o : Out Found) → follow (datagram mode) s (from at) ≡ o → run_from mode s (from at) ≡ tried o (from at) (run_from mode s) → ranges_of (run_from mode s (from at)) ≡ bare
      tries (stop c a n) e r = ap ranges_of (r ∙ ended c a n (subst Accepted r g))
      tries (got d q) e r =
          let f = datagram_on mode depth_limit s (from at) i e in
          let t = given (run_from mode s (from at)) g in
          let v = split (run_from mode s q) _ (sym r ∙ t.is) in
          let k = thrifty_datagrams mode s (length s) q f.1 v.first in
          let z = ap (λ (p : Place). p.at) (last_place v.second) in
          let y = ap end_of t.is in
          absurd (omega (arith, f.0, k.0, z, y, h))

      go : (b : Bool) → leb (length s) at ≡ b → ranges_of (run_from mode s (from at)) ≡ bare
      go true e = ap ranges_of (run_over mode s (from at) (leb-true (length s) at e))
      go false e = tries (follow (datagram mode) s (from at)) refl (run_on mode s (from at) (leb-false (length s) at e))
