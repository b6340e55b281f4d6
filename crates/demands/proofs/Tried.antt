-- Demand 2, for a run: what is answered is a run by the grammar, and a run by the grammar is answered. Assumes nothing.
use Prim.Native.Nat.{ℕ, zero, suc, ◌+◌, ◌-◌, ◌≤◌, ◌<◌}
use mathlib.Core.Path.{◌≡◌, refl, sym, ap, ◌∙◌, subst}
use mathlib.Core.Bool.{Bool, true, false, cond}
use mathlib.Core.List.{List, ◌++◌}
use native.Mathlib.Omega.{arith}
use native.Mathlib.Nat.{add-zero}
use borrow.Author.Tests.{leb-true, leb-false, eqb-true, eqb-false, ne_eqb}
use lib.Dec.{leb, eqb}
use lib.ListN.{length, drop, length-drop, length-append}
use Rattle.reading.specs.Script.{Forest, bare, ◌⊕◌, Found, nothing}
use Rattle.reading.specs.Cursor.{Place, Out, got, stop, then, follow}
use Rattle.reading.specs.Layout.{Mode, only, datagram}
use Rattle.reading.specs.Sizes.{depth_limit}
use Rattle.reading.specs.Answer.{tried, datagrams}
use Rattle.reading.proofs.Stands.{place}
use Rattle.reading.proofs.Sound.{sound}
use Rattle.reading.proofs.Complete.{complete}
use Rattle.reading.proofs.Room.{datagram_on}
use Rattle.reading.proofs.Runs.{run_from, run_over, run_on}
use Rattle.demands.proofs.Limit.{no_deeper, same_reading}
use Rattle.demands.specs.Stops.{Stops}
use Rattle.demands.proofs.Stopped.{stopped}
use Rattle.demands.proofs.Halting.{halting}
use Rattle.demands.specs.Tries.{DatagramAt, Run, over, next, cut, RunStops, this, later}

-- ---- what the cursor answers is a run by the grammar

-- with n items behind the steps before p
pub data Tried (mode : Mode) (s : List ℕ) (p : Place) : Out Found → Type 0 where
  done : {a : Found} {q : Place} (n : ℕ) → q.steps ≡ p.steps + n → Run mode s p.at a.ranges q.at n → Tried mode s p (got a q)
  halted : {c i m : ℕ} (n : ℕ) → m ≡ p.steps + n → RunStops mode s p.at c i n → Tried mode s p (stop c i m)

module _ (mode : Mode) (s : List ℕ) (p : Place) where
  -- a datagram that was read
  record ReadHere (f : Found) (q : Place) : Type 0 where
    bytes : ℕ
    items : ℕ
    at : q.at ≡ p.at + bytes
    steps : q.steps ≡ p.steps + items
    is : DatagramAt mode s p.at f bytes items

  read_here : (f : Found) (q : Place) → p.at ≤ length s → follow (datagram mode) s p ≡ got f q → ReadHere f q
  read_here f q h e =
      let r = sound (datagram mode) s p f q h e in
      record {
        bytes = length r.read;
        items = r.items;
        at = r.at;
        steps = r.steps;
        is = record {
          inside = h;
          allowed = record {
            reading = record { levels = depth_limit; begins = record { read = r.read; rest = r.rest; joined = r.stands.there; long = refl; is = r.is } };
            shallow = no_deeper mode depth_limit p.at r.read f r.items r.is;
          };
        };
      }

  goes_on : {f : Found} {q : Place} {o : Out Found} → ReadHere f q → Tried mode s q o → Tried mode s p (then o (λ g e. got (only (f.ranges ⊕ g.ranges)) e))
  goes_on {f} r (done {a} {q} n e t) =
      let z : q.steps ≡ p.steps + (r.items + n) = omega (arith, e, r.steps) in
      done (r.items + n) z (next f r.bytes r.items a.ranges n r.is refl refl (subst (λ (i : ℕ). Run mode s i a.ranges q.at n) r.at t))
  goes_on {f} r (halted {c} {i} {m} n e t) =
      let z : m ≡ p.steps + (r.items + n) = omega (arith, e, r.steps) in
      halted (r.items + n) z (later f r.bytes r.items n r.is refl (subst (λ (j : ℕ). RunStops mode s j c i n) r.at t))

  ends_here : p.at ≡ length s → Tried mode s p (got nothing p)
  ends_here h = done 0 (sym (add-zero _)) (over h refl refl refl)

  ends_before : {c i m : ℕ} → p.at < length s → follow (datagram mode) s p ≡ stop c i m → Tried mode s p (cond (eqb c 2) (got nothing (place p.at m)) (stop c i m))
  ends_before {c} {i} {m} h e = let r = stopped (datagram mode) s p c i m (omega arith) e in go r.items r.steps r.stops (eqb c 2) refl
    where
      go : (n : ℕ) → m ≡ p.steps + n → Stops (datagram mode) p.at (drop p.at s) c i n → (b : Bool) → eqb c 2 ≡ b → Tried mode s p (cond b (got nothing (place p.at m)) (stop c i m))
      go n k t true b = done n k (cut h i (subst (λ (d : ℕ). Stops (datagram mode) p.at (drop p.at s) d i n) (eqb-true c 2 b) t) refl refl)
      go n k t false b = halted n k (this h t (eqb-false c 2 b))

pub run_tried : (mode : Mode) (fuel : ℕ) (s : List ℕ) (p : Place) → p.at ≤ length s → length s ≤ fuel + p.at → Tried mode s p (datagrams mode fuel s p)
unfolding datagrams tried
run_tried mode zero s p h k = ends_here mode s p (omega arith)
run_tried mode (suc fuel) s p h k = go (λ q. run_tried mode fuel s q) (leb (length s) p.at) refl (follow (datagram mode) s p) refl
  where
    go : ((q : Place) → q.at ≤ length s → length s ≤ fuel + q.at → Tried mode s q (datagrams mode fuel s q)) → (b : Bool) → leb (length s) p.at ≡ b → (o : Out Found) → follow (datagram mode) s p ≡ o
        → Tried mode s p (cond b (got nothing p) (tried o p (datagrams mode fuel s)))
    go again true b o e = let l = leb-true (length s) p.at b in ends_here mode s p (omega arith)
    go again false b (got f q) e =
        let d = datagram_on mode depth_limit s p h e in
        goes_on mode s p (read_here mode s p f q h e) (again q d.1 (omega (arith, d.0)))
    go again false b (stop c i m) e = ends_before mode s p (leb-false (length s) p.at b) e

-- ---- a run by the grammar is what the cursor answers

module _ (mode : Mode) (s : List ℕ) where
  datagram_read : {at : ℕ} {f : Found} {bytes items : ℕ} (k : ℕ) → DatagramAt mode s at f bytes items → follow (datagram mode) s (place at k) ≡ got f (place (at + bytes) (k + items))
  datagram_read {at} {f} {bytes} {items} k d =
      let r = d.allowed.reading in
      let b = r.begins in
      let n : length (b.read ++ b.rest) ≡ length s - at = ap length (sym b.joined) ∙ length-drop at s in
      let m = length-append b.read b.rest in
      complete (datagram mode) s b.read b.rest f at k items (same_reading mode r.levels depth_limit at b.read f items b.is d.allowed.shallow) (record { there = b.joined; fits = omega (arith, n, m, d.inside) })
      ∙ ap (λ (i : ℕ). got f (place (at + i) (k + items))) b.long

  datagram_in : {at : ℕ} {f : Found} {bytes items : ℕ} → DatagramAt mode s at f bytes items → at < length s
  datagram_in {at} d = let o = datagram_on mode depth_limit s (place at 0) d.inside (datagram_read 0 d) in omega (arith, o.0, o.1)

  datagram_stop : {at c i n : ℕ} (k : ℕ) → at < length s → Stops (datagram mode) at (drop at s) c i n → follow (datagram mode) s (place at k) ≡ stop c i (k + n)
  datagram_stop k h t = halting t s k (record { there = refl; fits = omega arith })

  same_end : (g h : Forest) (i j k l : ℕ) → g ≡ h → i ≡ j → k ≡ l → got (only g) (place i k) ≡ got (only h) (place j l)
  same_end g h i j k l e f m = rw (e, f, m)

  pub run_read : {at : ℕ} {g : Forest} {end n : ℕ} (k : ℕ) → Run mode s at g end n → run_from mode s (place at k) ≡ got (only g) (place end (k + n))
  unfolding tried
  run_read {at} {g} {end} {n} k (over e f m z) = run_over mode s (place at k) (omega arith) ∙ same_end bare g at end k (k + n) (sym z) (sym f) (omega arith)
  run_read {at} {g} {end} {n} k (next f bytes items h m d e z t) =
      run_on mode s (place at k) (datagram_in d)
      ∙ ap (λ (o : Out Found). tried o (place at k) (run_from mode s)) (datagram_read k d)
      ∙ ap (λ (o : Out Found). then o (λ u v. got (only (f.ranges ⊕ u.ranges)) v)) (run_read (k + items) t)
      ∙ same_end (f.ranges ⊕ h) g end end (k + items + m) (k + n) (sym z) refl (omega arith)
  run_read {at} {g} {end} {n} k (cut h i t e z) =
      run_on mode s (place at k) h ∙ ap (λ (o : Out Found). tried o (place at k) (run_from mode s)) (datagram_stop k h t) ∙ same_end bare g at end (k + n) (k + n) (sym z) (sym e) refl

  pub run_stopped : {at c i n : ℕ} (k : ℕ) → RunStops mode s at c i n → run_from mode s (place at k) ≡ stop c i (k + n)
  unfolding tried
  run_stopped {at} {c} {i} {n} k (this h t z) = run_on mode s (place at k) h ∙ ap (λ (o : Out Found). tried o (place at k) (run_from mode s)) (datagram_stop k h t) ∙ rw (ne_eqb c 2 z)
  run_stopped {at} {c} {i} {n} k (later f bytes items m d e t) =
      run_on mode s (place at k) (datagram_in d)
      ∙ ap (λ (o : Out Found). tried o (place at k) (run_from mode s)) (datagram_read k d)
      ∙ ap (λ (o : Out Found). then o (λ u v. got (only (f.ranges ⊕ u.ranges)) v)) (run_stopped (k + items) t)
      ∙ ap (λ (j : ℕ). stop c i j) {x = k + items + m} {y = k + n} (omega arith)
