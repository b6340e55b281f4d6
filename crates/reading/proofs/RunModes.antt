-- Runs in the two modes: the ranges of a run are those of the base mode's run over the bytes up to where it ended. Assumes nothing.
use Prim.Native.Nat.{ℕ, zero, suc, ◌≤◌}
use mathlib.Core.Path.{◌≡◌, refl, ap, ◌∙◌, subst}
use mathlib.Core.Bool.{Bool, true, false, cond}
use mathlib.Core.List.{List}
use native.Mathlib.Omega.{arith}
use borrow.Author.Tests.{leb-false}
use lib.Dec.{eqb, leb}
use lib.ListN.{length, take}
use lib.Seq.{length-take-le, take-take}
use Rattle.reading.specs.Script.{◌⊕◌, Found, nothing}
use Rattle.reading.specs.Cursor.{Place, Out, got, stop, follow}
use Rattle.reading.specs.Layout.{Mode, base, only, datagram}
use Rattle.reading.specs.Sizes.{depth_limit}
use Rattle.reading.specs.Answer.{run_ender, tried, datagrams}
use Rattle.reading.proofs.Items.{never, split}
use Rattle.reading.proofs.Stands.{place}
use Rattle.reading.proofs.Room.{last_place, datagram_on}
use Rattle.reading.proofs.Exactly.{ended, longer}
use Rattle.reading.proofs.Runs.{run_from, run_over, run_on, thrifty_datagrams}
use Rattle.reading.proofs.Modes.{in_base}

-- the base mode's run over s up to where this one ended finds the same, and ends there; with the same steps, if that is the end of s
pub record RunInBase (s : List ℕ) (p : Place) (a : Found) (q : Place) : Type 0 where
  pub steps : ℕ
  pub is : run_from base (take q.at s) p ≡ got a (place q.at steps)
  pub same : q.at ≡ length s → steps ≡ q.steps

module _ (mode : Mode) (s : List ℕ) where
  -- no datagram more
  none : (p : Place) (n : ℕ) {a : Found} {q : Place} → p.at ≤ length s → (p.at ≡ length s → p.steps ≡ n) → got nothing (place p.at n) ≡ got a q → RunInBase s p a q
  none p n {a} {q} h k e =
      let x : nothing ≡ a = cc in
      let y : place p.at n ≡ q = last_place e in
      let z : p.at ≡ q.at = ap (λ (r : Place). r.at) y in
      let l = length-take-le q.at s (omega (arith, z)) in
      record {
        steps = p.steps;
        is = run_over base (take q.at s) p (omega (arith, l, z)) ∙ ap (λ (f : Found). got f p) x ∙ ap (λ (m : ℕ). got a (place m p.steps)) z;
        same = λ i. k (z ∙ i) ∙ ap (λ (r : Place). r.steps) y;
      }

  -- a datagram, and what follows it
  more : (p : Place) (d : Found) (r : Place) (f : Found) (e : Place) → p.at ≤ length s → e.at ≤ length s → r.at ≤ e.at → follow (datagram mode) s p ≡ got d r → RunInBase s r f e
      → RunInBase s p (only (d.ranges ⊕ f.ranges)) e
  unfolding tried
  more p d r f e h i j g k =
      let o = datagram_on mode depth_limit s p h g in
      let l = length-take-le e.at s i in
      let t : follow (datagram base) (take r.at (take e.at s)) p ≡ got d r = rw (take-take r.at e.at s j) (ended (datagram base) s p h ((in_base mode).is s p d r g)) in
      let b : follow (datagram base) (take e.at s) p ≡ got d r = longer (datagram base) (take e.at s) r.at p (omega (arith, l, j)) (omega (arith, o.0)) t in
      record {
        steps = k.steps;
        is = run_on base (take e.at s) p (omega (arith, l, o.0, j)) ∙ rw (b, k.is);
        same = k.same;
      }

  pub run_in_base : (fuel : ℕ) (p : Place) {a : Found} {q : Place} → p.at ≤ length s → datagrams mode fuel s p ≡ got a q → RunInBase s p a q
  unfolding datagrams tried
  run_in_base zero p h e = none p p.steps h (λ z. refl) e
  run_in_base (suc fuel) p {a} {q} h e = go (λ r b v. run_in_base fuel r {a = b} {q = v}) (leb (length s) p.at) refl (follow (datagram mode) s p) refl e
    where
      go : ((r : Place) (b : Found) (v : Place) → r.at ≤ length s → datagrams mode fuel s r ≡ got b v → RunInBase s r b v)
          → (t : Bool) → leb (length s) p.at ≡ t → (o : Out Found) → follow (datagram mode) s p ≡ o → cond t (got nothing p) (tried o p (datagrams mode fuel s)) ≡ got a q → RunInBase s p a q
      go again true i o f e = none p p.steps h (λ z. refl) e
      go again false i (got d r) f e =
          let v = split (datagrams mode fuel s r) _ e in
          let j = (datagram_on mode depth_limit s p h f).1 in
          let k = thrifty_datagrams mode s fuel r j v.first in
          let x : only (d.ranges ⊕ v.value.ranges) ≡ a = cc in
          let y : v.place ≡ q = last_place v.second in
          let m = more p d r v.value v.place h k.1 (omega (arith, k.0)) f (again r v.value v.place j v.first) in
          subst (λ (b : Found). RunInBase s p b q) x (subst (RunInBase s p (only (d.ranges ⊕ v.value.ranges))) y m)
      go again false i (stop c j n) f e = ends (eqb c run_ender) e
        where
          ends : (t : Bool) → cond t (got nothing (record { at = p.at; steps = n })) (stop c j n) ≡ got a q → RunInBase s p a q
          ends true e = none p n h (λ z. absurd (omega (arith, leb-false (length s) p.at i, z))) e
          ends false e = never e
