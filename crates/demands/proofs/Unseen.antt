-- Code 8 precedes any look at the record's bytes: whatever stands from that position on, the fault is the same. By induction on where a reading stops, or a
-- run. Assumes nothing.
use Prim.Native.Nat.{ℕ, ◌+◌, ◌-◌, ◌≤◌}
use mathlib.Core.Path.{◌≡◌, refl, sym, ap, ◌∙◌, subst}
use mathlib.Core.Bool.{true}
use mathlib.Core.List.{List, ◌++◌}
use native.Mathlib.Omega.{arith}
use native.Mathlib.Nat.{sub-zero}
use lib.ListN.{length, take, drop, length-append, length-drop, take-append-drop}
use lib.Seq.{length-take-le, take-take, take_at, drop_at, take-append-le}
use Rattle.reading.specs.Script.{Found, Item, Script}
use Rattle.reading.specs.Grammar.{Opaque}
use Rattle.reading.specs.Layout.{Mode, datagram}
use Rattle.reading.proofs.Stands.{drop_take}
use Rattle.reading.proofs.Faults.{fair_item, test_code, Coded, gives, refuses, stands, reads, opens, repeats}
use Rattle.reading.proofs.Codes.{coded_datagram}
use Rattle.demands.specs.Stops.{NoOpaque, no_length, too_long, cut, NoItem, no_word, no_tested, failed, no_long, no_int, no_block, no_part, no_string, Stops, barred, standing, no_item, not_text, past_item, no_opaque, inside_it, past_it, among, past_all}
use Rattle.demands.proofs.Enclosed.{opaque_long}
use Rattle.demands.specs.Tries.{DatagramAt, RunStops, this, later}

-- a reading stops no sooner than it starts, and no later than what encloses it ends
pub spans : {sc : Script} {o c a n : ℕ} {b : List ℕ} → Stops sc o b c a n → (o ≤ a) × (a ≤ o + length b)
spans (barred e f g) = (omega arith, omega arith)
spans (standing t) = spans t
spans (no_item m e f) = (omega arith, omega arith)
spans (not_text x j q l g z e f) =
    let r = ap length q.joined ∙ length-append q.read q.rest in
    (omega arith, omega (arith, r, opaque_long q.is))
spans (past_item x y v m e f ix t) = let r = spans t in let l = ap length e ∙ length-append x y in (omega (arith, r.0), omega (arith, r.1, l))
spans (no_opaque m e f) = (omega arith, omega arith)
spans (inside_it x m f q t) =
    let r = spans t in
    let l = ap length q.joined ∙ length-append q.read q.rest in
    (omega (arith, r.0), omega (arith, r.1, l, opaque_long q.is))
spans (past_it x u y inner rest g m l e f q ex ib t) = let r = spans t in let k = ap length e ∙ length-append u y in (omega (arith, r.0), omega (arith, r.1, k))
spans (among j x y g m l lt e f many t) = let r = spans t in let k = ap length e ∙ length-append x y in (omega (arith, r.0), omega (arith, r.1, k))
spans (past_all x y g m l e f many t) = let r = spans t in let k = ap length e ∙ length-append x y in (omega (arith, r.0), omega (arith, r.1, k))

-- what no item's fault has as its code
opaque_not_8 : {b : List ℕ} {c : ℕ} → NoOpaque b c → c ≡ 8 → ⊥
opaque_not_8 (no_length l e) z = omega arith
opaque_not_8 (too_long f l e) z = omega arith
opaque_not_8 (cut f l m e) z = omega arith

item_not_8 : {b : List ℕ} {c : ℕ} {i : Item} → NoItem b c i → fair_item i ≡ true → c ≡ 8 → ⊥
item_not_8 (no_word l e) h z = omega arith
item_not_8 (no_tested l e) h z = omega arith
item_not_8 (failed {c = d} f l e) h z = let k = test_code d h in omega (arith, k.1)
item_not_8 (no_long l e) h z = omega arith
item_not_8 (no_int l e) h z = omega arith
item_not_8 (no_block l e) h z = omega arith
item_not_8 (no_part n) h z = opaque_not_8 n z
item_not_8 (no_string n) h z = opaque_not_8 n z

-- ---- two byte strings from o on that are alike before a

pub record Same (o a : ℕ) (b d : List ℕ) : Type 0 where
  pub long : length d ≡ length b
  pub alike : take (a - o) d ≡ take (a - o) b

module _ {o a : ℕ} {b d : List ℕ} (h : Same o a b d) (x y : List ℕ) (e : b ≡ x ++ y) (l : o + length x ≤ a) where
  -- a part before a is in both
  pub same_front : d ≡ x ++ drop (length x) d
  same_front =
      let f : take (length x) d ≡ x =
      sym (take-take (length x) (a - o) d (omega arith)) ∙ ap (λ (t : List ℕ). take (length x) t) h.alike ∙ take-take (length x) (a - o) b (omega arith)
      ∙ ap (λ (t : List ℕ). take (length x) t) e ∙ take_at x y (length x) refl in
      sym (take-append-drop (length x) d) ∙ ap (λ (t : List ℕ). t ++ drop (length x) d) f

  -- and what is behind it is alike
  pub same_back : Same (o + length x) a y (drop (length x) d)
  same_back =
      let m : length x + (a - (o + length x)) ≡ a - o = omega arith in
      let k = ap length e ∙ length-append x y in
      let g : drop (length x) b ≡ y = ap (λ (t : List ℕ). drop (length x) t) e ∙ drop_at x y (length x) refl in
      record {
        long = length-drop (length x) d ∙ omega (arith, h.long, k);
        alike = sym (drop_take (length x) (a - (o + length x)) d) ∙ ap (λ (i : ℕ). drop (length x) (take i d)) m ∙ ap (λ (t : List ℕ). drop (length x) t) h.alike
            ∙ ap (λ (i : ℕ). drop (length x) (take i b)) (sym m) ∙ drop_take (length x) (a - (o + length x)) b ∙ ap (λ (t : List ℕ). take (a - (o + length x)) t) g;
      }

-- the parts of both that end behind a are alike
same_part : {o a : ℕ} {b d : List ℕ} → Same o a b d → (x y : List ℕ) → b ≡ x ++ y → o ≤ a → a ≤ o + length x → Same o a x (take (length x) d)
same_part {o} {a} {b} {d} h x y e k l =
    record {
      long = length-take-le (length x) d (omega (arith, h.long, ap length e ∙ length-append x y));
      alike = take-take (a - o) (length x) d (omega arith) ∙ h.alike ∙ ap (λ (t : List ℕ). take (a - o) t) e ∙ take-append-le (a - o) x y (omega arith);
    }

-- opaques whose payloads a lies in: where one is, the other is, and its payload is alike
opaque_alike : {o a : ℕ} {u v x : List ℕ} → Same o a u v → Opaque x u → o + 4 ≤ a → a ≤ o + 4 + length x → (y : List ℕ) × Opaque y v × Same (o + 4) a x y
opaque_alike {o} {a} {u} {v} {x} h q l m =
    let k : o + length q.size ≤ a = omega (arith, q.four) in
    go (drop (length q.size) v) (same_front h q.size (x ++ q.pad) q.joined k)
    (subst (λ (n : ℕ). Same (o + n) a (x ++ q.pad) (drop (length q.size) v)) q.four (same_back h q.size (x ++ q.pad) q.joined k))
  where
    go : (t : List ℕ) → v ≡ q.size ++ t → Same (o + 4) a (x ++ q.pad) t → (y : List ℕ) × Opaque y v × Same (o + 4) a x y
    go t e g =
        let s = same_part g x q.pad refl l m in (
          take (length x) t,
          record {
            size = q.size;
            pad = drop (length x) t;
            joined = e ∙ ap (λ (z : List ℕ). q.size ++ z) (sym (take-append-drop (length x) t));
            four = q.four;
            counts = q.counts ∙ sym s.long;
            small = rw s.long q.small;
            filled = omega (arith, s.long, g.long, length-append x q.pad, length-drop (length x) t, q.filled);
          },
          s,
        )

-- ---- a script that stops with code 8 stops so, whatever stands from there on
pub unseen : {sc : Script} {o c a n : ℕ} {b : List ℕ} → Coded sc → Stops sc o b c a n → c ≡ 8 → (d : List ℕ) → Same o a b d → Stops sc o d c a n
unseen gives t z d h = elim t [ ]
unseen (refuses k) (barred e f g) z d h = barred e f g
unseen {o = o} (stands k) (standing t) z d h = standing (unseen (k o) t z d h)
unseen (reads i k) (no_item m e f) z d h = absurd (item_not_8 m i z)
unseen (reads i k) (not_text x j q l g z e f) y d h = absurd (omega arith)
unseen (reads i k) (past_item x y v m e f ix t) z d h =
    let l = (spans t).0 in
    past_item x (drop (length x) d) v m (same_front h x y e l) f ix (unseen (k v) t z (drop (length x) d) (same_back h x y e l))
unseen (opens i k) (no_opaque m e f) z d h = absurd (opaque_not_8 m z)
unseen (opens i k) (inside_it x m f q t) z d h =
    let r = spans t in
    let (y, w, g) = opaque_alike (same_part h q.read q.rest q.joined (omega (arith, r.0)) (omega (arith, r.1, opaque_long q.is))) q.is r.0 r.1 in
    inside_it {b = d} y m f (record { read = take (length q.read) d; rest = drop (length q.read) d; joined = rw (take-append-drop (length q.read) d); is = w }) (unseen i t z y g)
unseen (opens i k) (past_it x u y inner rest g m l e f q ex ib t) z d h =
    let p = (spans t).0 in
    past_it x u (drop (length u) d) inner rest g m l (same_front h u y e p) f q ex ib (unseen (k _ g) t z (drop (length u) d) (same_back h u y e p))
unseen (repeats i k) (among j x y g m l lt e f many t) z d h =
    let p = (spans t).0 in
    among j x (drop (length x) d) g m l lt (same_front h x y e p) f many (unseen i t z (drop (length x) d) (same_back h x y e p))
unseen (repeats i k) (past_all x y g m l e f many t) z d h =
    let p = (spans t).0 in
    past_all x (drop (length x) d) g m l (same_front h x y e p) f many (unseen (k g) t z (drop (length x) d) (same_back h x y e p))

pub record_unseen : (mode : Mode) (s t : List ℕ) (i n : ℕ) → Stops (datagram mode) 0 s 8 i n → length t ≡ length s → take i t ≡ take i s → Stops (datagram mode) 0 t 8 i n
record_unseen mode s t i n h l e = unseen (coded_datagram mode) h refl t (record { long = l; alike = rw sub-zero e })

-- ---- and so does a run

-- a run stops no sooner than it starts
run_spans : {mode : Mode} {s : List ℕ} {at c i n : ℕ} → RunStops mode s at c i n → at ≤ i
run_spans (this l t z) = (spans t).0
run_spans (later f bytes items m d e t) = let r = run_spans t in omega (arith, r)

-- two inputs that are as long, and alike before i
module _ (mode : Mode) (s t : List ℕ) (i : ℕ) (long : length t ≡ length s) (alike : take i t ≡ take i s) where
  alike_at : (at : ℕ) → at ≤ i → Same at i (drop at s) (drop at t)
  alike_at at l =
      let m : at + (i - at) ≡ i = omega arith in
      record {
        long = length-drop at t ∙ ap (λ (n : ℕ). n - at) long ∙ sym (length-drop at s);
        alike = sym (drop_take at (i - at) t) ∙ ap (λ (n : ℕ). drop at (take n t)) m ∙ ap (λ (x : List ℕ). drop at x) alike ∙ ap (λ (n : ℕ). drop at (take n s)) (sym m) ∙ drop_take at (i - at) s;
      }

  -- a datagram before i is read alike
  datagram_alike : {at : ℕ} {f : Found} {bytes items : ℕ} → at + bytes ≤ i → DatagramAt mode s at f bytes items → DatagramAt mode t at f bytes items
  datagram_alike {at} l d =
      let b = d.allowed.reading.begins in
      record {
        inside = omega (arith, d.inside, long);
        allowed = record {
          reading = record {
            levels = d.allowed.reading.levels;
            begins = record {
              read = b.read;
              rest = drop (length b.read) (drop at t);
              joined = same_front (alike_at at (omega arith)) b.read b.rest b.joined (omega (arith, b.long));
              long = b.long;
              is = b.is;
            };
          };
          shallow = d.allowed.shallow;
        };
      }

  run_alike : {at c n : ℕ} → c ≡ 8 → RunStops mode s at c i n → RunStops mode t at c i n
  run_alike {at} e (this l h z) = let k = (spans h).0 in this {at = at} (omega (arith, l, long)) (unseen (coded_datagram mode) h e (drop at t) (alike_at at k)) z
  run_alike e (later f bytes items m d g r) = later f bytes items m (datagram_alike (run_spans r) d) g (run_alike e r)

pub run_unseen : (mode : Mode) (s t : List ℕ) (i n : ℕ) → RunStops mode s 0 8 i n → length t ≡ length s → take i t ≡ take i s → RunStops mode t 0 8 i n
run_unseen mode s t i n h l e = run_alike mode s t i l e refl h
