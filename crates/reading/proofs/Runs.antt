-- Runs of datagrams: a run is its first datagram and then the rest of it. Assumes nothing.
use Prim.Native.Nat.{ℕ, zero, suc, ◌+◌, ◌*◌, ◌≤◌, ◌<◌}
use mathlib.Core.Bool.{Bool, true, false, cond}
use mathlib.Core.Path.{◌≡◌, refl, sym, ap, ◌∙◌}
use mathlib.Core.List.{List}
use native.Mathlib.Omega.{arith}
use borrow.Author.Tests.{le-leb, lt-leb, ne_eqb}
use lib.Dec.{eqb, leb}
use lib.ListN.{length}
use Rattle.reading.specs.Script.{◌⊕◌, Found, nothing}
use Rattle.reading.specs.Cursor.{Place, Out, got, stop, then, follow}
use Rattle.reading.specs.Layout.{Mode, only, datagram}
use Rattle.reading.specs.Sizes.{depth_limit}
use Rattle.reading.specs.Answer.{size, from, run_ender, tried, datagrams}
use Rattle.reading.proofs.Items.{never, split}
use Rattle.reading.proofs.Steps.{Alike, both_got, both_stop, Steady, alike_then, alike_cond, steady}
use Rattle.reading.proofs.Counts.{counted, size_joined}
use Rattle.reading.proofs.Room.{last_place, thrifty_datagram, datagram_on}
use Rattle.reading.proofs.Places.{Accepted, end_of, given}

-- ---- whatever the fuel, where there is enough of it
module _ (mode : Mode) (s : List ℕ) where
  over : (n : ℕ) (p : Place) → length s ≤ p.at → datagrams mode n s p ≡ got nothing p
  unfolding datagrams
  over zero p h = refl
  over (suc n) p h = rw (le-leb (length s) p.at h)

  enough : (n m : ℕ) (p : Place) → p.at ≤ length s → length s ≤ n + p.at → length s ≤ m + p.at → datagrams mode n s p ≡ datagrams mode m s p
  unfolding datagrams tried
  enough zero m p i h k = sym (over m p (omega arith))
  enough (suc n) zero p i h k = over (suc n) p (omega arith)
  enough (suc n) (suc m) p i h k = ap (λ (o : Out Found). cond (leb (length s) p.at) (got nothing p) o) (go (λ q. enough n m q) (follow (datagram mode) s p) refl)
    where
      go : ((q : Place) → q.at ≤ length s → length s ≤ n + q.at → length s ≤ m + q.at → datagrams mode n s q ≡ datagrams mode m s q)
          → (o : Out Found) → follow (datagram mode) s p ≡ o → tried o p (datagrams mode n s) ≡ tried o p (datagrams mode m s)
      go again (got d q) e =
          let f = datagram_on mode depth_limit s p i e in
          ap (λ (u : Out Found). then u (λ f e. got (only (d.ranges ⊕ f.ranges)) e)) (again q f.1 (omega (arith, f.0, h)) (omega (arith, f.0, k)))
      go again (stop c a n) e = refl

  -- the run from p on
  unfoldable pub run_from : Place → Out Found
  run_from p = datagrams mode (length s) s p

  pub run_over : (p : Place) → length s ≤ p.at → run_from p ≡ got nothing p
  unfolding run_from
  run_over p h = over (length s) p h

  pub run_on : (p : Place) → p.at < length s → run_from p ≡ tried (follow (datagram mode) s p) p run_from
  unfolding run_from datagrams
  run_on p h = enough (length s) (suc (length s)) p (omega arith) (omega arith) (omega arith) ∙ rw (lt-leb (length s) p.at h)

-- ---- a run, counted
module _ (mode : Mode) (s : List ℕ) (p : Place) (k : ℕ) (h : p.at < length s) where
  pub run_got : {j : ℕ} {q : Place} → counted k (follow (datagram mode) s p) ≡ got j q → counted k (run_from mode s p) ≡ counted j (run_from mode s q)
  unfolding counted tried
  run_got {j} {q} e = ap (counted k) (run_on mode s p h) ∙ go (follow (datagram mode) s p) e
    where
      go : (o : Out Found) → counted k o ≡ got j q → counted k (tried o p (run_from mode s)) ≡ counted j (run_from mode s q)
      go (got d r) f =
          let x : k + size d.ranges ≡ j = cc in
          let y : r ≡ q = cc in
          rw (← y, ← x) (joined d (run_from mode s r))
        where
          joined : (d : Found) (o : Out Found) → counted k (then o (λ f e. got (only (d.ranges ⊕ f.ranges)) e)) ≡ counted (k + size d.ranges) o
          joined d (got f e) =
              let z : k + size (d.ranges ⊕ f.ranges) ≡ k + size d.ranges + size f.ranges = rw size_joined (omega arith) in
              ap (λ (n : ℕ). got n e) z
          joined d (stop c a n) = refl
      go (stop c a n) f = never f

  module _ {c a n : ℕ} (e : counted k (follow (datagram mode) s p) ≡ stop c a n) where
    stops : follow (datagram mode) s p ≡ stop c a n
    unfolding counted
    stops = go (follow (datagram mode) s p) e
      where
        go : (o : Out Found) → counted k o ≡ stop c a n → o ≡ stop c a n
        go (got d r) f = never (sym f)
        go (stop x y z) f =
            let i : x ≡ c = cc in
            let j : y ≡ a = cc in
            let m : z ≡ n = cc in
            rw (i, j, m)

    is : run_from mode s p ≡ tried (stop c a n) p (run_from mode s)
    is = run_on mode s p h ∙ ap (λ (o : Out Found). tried o p (run_from mode s)) stops

    -- code 2 ends the run, and that datagram has no descriptors
    pub run_ends : c ≡ 2 → counted k (run_from mode s p) ≡ got k (record { at = p.at; steps = n })
    unfolding counted tried size
    run_ends z = ap (counted k) is ∙ rw z (ap (λ (m : ℕ). got m (record { at = p.at; steps = n })) (omega arith))

    pub run_stops : (c ≡ 2 → ⊥) → counted k (run_from mode s p) ≡ stop c a n
    unfolding counted tried
    run_stops z = ap (counted k) is ∙ rw (ne_eqb c 2 z)

-- ---- a run that is accepted, whatever the steps before it
module _ (mode : Mode) (s : List ℕ) where
  -- nothing more is found at p
  none : (p : Place) (a : Found) (q : Place) → p.at ≤ length s → got nothing p ≡ got a q → (4 * size a.ranges + p.at ≤ q.at) × (q.at ≤ length s)
  unfolding size
  none p a q h e =
      let x : nothing ≡ a = cc in
      let z = ap (λ (r : Place). r.at) (last_place e) in
      (rw (← x) (omega (arith, z)), omega (arith, z))

  alike_tried : {o u : Out Found} (p q : Place) (f g : Place → Out Found) → p.at ≡ q.at → Alike o u → ((i j : Place) → i.at ≡ j.at → Alike (f i) (g j)) → Alike (tried o p f) (tried u q g)
  unfolding tried
  alike_tried p q f g e (both_got {p = i} {q = j} h) k = alike_then _ _ (k i j h) (λ b u v w. both_got w)
  alike_tried p q f g e (both_stop {c}) k = alike_cond (eqb c run_ender) (both_got e) both_stop

  steady_datagrams : (n : ℕ) → Steady (datagrams mode n s)
  unfolding datagrams
  steady_datagrams zero p q e = both_got e
  steady_datagrams (suc n) p q e = go (leb (length s) p.at) (leb (length s) q.at) (ap (leb (length s)) e) _ _ (alike_tried p q (datagrams mode n s) (datagrams mode n s) e (steady (datagram mode) s p q e) (steady_datagrams n))
    where
      go : (b c : Bool) → b ≡ c → (x y : Out Found) → Alike x y → Alike (cond b (got nothing p) x) (cond c (got nothing q) y)
      go b c z x y h = rw z (alike_cond c (both_got e) h)

  pub steady_run : Steady (run_from mode s)
  unfolding run_from
  steady_run = steady_datagrams (length s)

  -- a run passes four bytes for each descriptor, and stays inside
  pub thrifty_datagrams : (n : ℕ) (p : Place) {a : Found} {q : Place} → p.at ≤ length s → datagrams mode n s p ≡ got a q → (4 * size a.ranges + p.at ≤ q.at) × (q.at ≤ length s)
  unfolding datagrams tried size
  thrifty_datagrams zero p {a} {q} h e = none p a q h e
  thrifty_datagrams (suc n) p {a} {q} h e = go (λ r b v. thrifty_datagrams n r {a = b} {q = v}) (leb (length s) p.at) (follow (datagram mode) s p) refl e
    where
      go : ((r : Place) (b : Found) (v : Place) → r.at ≤ length s → datagrams mode n s r ≡ got b v → (4 * size b.ranges + r.at ≤ v.at) × (v.at ≤ length s))
          → (b : Bool) (o : Out Found) → follow (datagram mode) s p ≡ o → cond b (got nothing p) (tried o p (datagrams mode n s)) ≡ got a q → (4 * size a.ranges + p.at ≤ q.at) × (q.at ≤ length s)
      go again true o f e = none p a q h e
      go again false (got d r) f e =
          let i = thrifty_datagram mode depth_limit s p d r h f in
          let v = split (datagrams mode n s r) _ e in
          let j = again r v.value v.place (datagram_on mode depth_limit s p h f).1 v.first in
          let g : got (only (d.ranges ⊕ v.value.ranges)) v.place ≡ got a q = v.second in
          let x : only (d.ranges ⊕ v.value.ranges) ≡ a = cc in
          let z = ap (λ (r : Place). r.at) (last_place g) in
          (rw (← x, size_joined) (omega (arith, i, j.0, z)), omega (arith, j.1, z))
      go again false (stop c i k) f e = ends (eqb c run_ender) e
        where
          ends : (b : Bool) → cond b (got nothing (record { at = p.at; steps = k })) (stop c i k) ≡ got a q → (4 * size a.ranges + p.at ≤ q.at) × (q.at ≤ length s)
          ends true e = none (record { at = p.at; steps = k }) a q h e
          ends false e = never e

  pub thrifty_run : (at : ℕ) {a : Found} {q : Place} → at ≤ length s → run_from mode s (from at) ≡ got a q → (4 * size a.ranges + at ≤ q.at) × (q.at ≤ length s)
  unfolding run_from
  thrifty_run at h e = thrifty_datagrams (length s) (from at) h e

  pub forward_run : (at : ℕ) → at ≤ length s → Accepted (run_from mode s (from at)) → end_of (run_from mode s (from at)) ≤ length s
  unfolding end_of
  forward_run at h g = let t = given (run_from mode s (from at)) g in rw t.is (thrifty_run at h t.is).1
