-- The two modes, said of what is answered: where the memo's mode accepts, the base mode answers the same. Assumes nothing.
use Prim.Native.Nat.{ℕ, zero, suc, ◌*◌, ◌≤◌}
use mathlib.Core.Path.{◌≡◌, refl, sym, ap, ◌∙◌}
use mathlib.Core.Bool.{Bool, true, false, cond}
use mathlib.Core.List.{List, ◌++◌}
use native.Mathlib.Omega.{arith}
use borrow.Author.Tests.{le-leb, leb-true, ne_eqb}
use lib.Dec.{leb}
use lib.ListN.{length, take, drop, length-take}
use lib.Seq.{take_all}
use Rattle.reading.specs.Script.{Value, Found}
use Rattle.reading.specs.Cursor.{Place, Out, got, stop, follow}
use Rattle.reading.specs.Layout.{Mode, memo, base, flows, samples, datagram}
use Rattle.reading.specs.Sizes.{longest_input, descriptor_words}
use Rattle.reading.specs.Answer.{limited, from, nobody, size, rows, room, Header, header_of, no_header, Answer, refused, stored, one, datagrams, run, layout_of, read}
use Rattle.reading.proofs.Stands.{place}
use Rattle.reading.proofs.Codes.{datagram_coded, run_coded}
use Rattle.reading.proofs.Runs.{run_from}
use Rattle.reading.proofs.Modes.{memo_base}
use Rattle.reading.proofs.RunModes.{RunInBase, run_in_base}

-- ---- field reading: format 2 of the flow records is the one layout that differs

pub other_layouts : (kind format : ℕ) → (kind ≡ 2 → format ≡ 2 → ⊥) → layout_of base kind format ≡ layout_of memo kind format
unfolding layout_of samples flows
other_layouts zero f z = refl
other_layouts (suc zero) f z = refl
other_layouts (suc (suc zero)) f z = simp (ne_eqb 2 f (λ e. z refl (sym e)))
other_layouts (suc (suc (suc zero))) f z = refl
other_layouts (suc (suc (suc (suc k)))) f z = refl

pub other_fields : (ak af : ℕ) → (ak ≡ 2 → af ≡ 2 → ⊥) → (s : List ℕ) (k f start extent : ℕ) → read base ak af s k f start extent ≡ read memo ak af s k f start extent
unfolding read
other_fields ak af z s k f start extent = rw (other_layouts ak af z) refl

-- ---- one datagram

-- an answer by a reading that is no refusal
read_out : (s w : List ℕ) (head : List Value → Header) (o : Out Found) → ((c a n : ℕ) → o ≡ stop c a n → c ≡ 0 → ⊥) → (limited s (stored head o w) (refused 1 0 0 0 w)).code ≡ 0
    → (length s ≤ longest_input) × (a : Found) × (q : Place) × (o ≡ got a q)
unfolding stored
read_out s w head o coded z = go (leb (length s) longest_input) refl z o refl
  where
    go : (b : Bool) → leb (length s) longest_input ≡ b → (cond b (stored head o w) (refused 1 0 0 0 w)).code ≡ 0 → (u : Out Found) → o ≡ u → (length s ≤ longest_input) × (a : Found) × (q : Place) × (o ≡ got a q)
    go false e k u i = absurd (omega (arith, k))
    go true e k (got a q) i = (leb-true (length s) longest_input e, a, q, i)
    go true e k (stop c a n) i = absurd (coded c a n i (rw i at k))

pub same_answer : (s w : List ℕ) → (one memo s w).code ≡ 0 → one base s w ≡ one memo s w
unfolding one
same_answer s w z =
    let r = read_out s w header_of (follow (datagram memo) s (from 0)) (λ c a n. datagram_coded memo s (from 0)) z in
    ap (λ (o : Out Found). limited s (stored header_of o w) (refused 1 0 0 0 w)) (memo_base.is s (from 0) r.1 r.2 r.3 ∙ sym r.3)

-- ---- a run

-- an answer, but for its steps
abbrev pub with_steps : ℕ → Answer → Answer
with_steps n a = record { code = a.code; at = a.at; steps = n; needed = a.needed; head = a.head; store = a.store }

run_said : (mode : Mode) (s w : List ℕ) {o : Out Found} → length s ≤ longest_input → run_from mode s (from 0) ≡ o → run mode s w ≡ stored (λ _. no_header) o w
unfolding run run_from
run_said mode s w h e = rw (le-leb (length s) longest_input h, e) refl

-- the answer to a run that was read, by whether the store has room
abbrev kept : Found → Place → List ℕ → Bool → Answer
kept a q w b = cond b (record {
  code = 0;
  at = q.at;
  steps = q.steps;
  needed = size a.ranges;
  head = no_header;
  store = rows 0 nobody a.ranges ++ drop (descriptor_words * size a.ranges) w;
}) (refused 9 0 q.steps (size a.ranges) w)

accepted_end : (a : Found) (q : Place) (w : List ℕ) → (stored (λ _. no_header) (got a q) w).code ≡ 0 → (stored (λ _. no_header) (got a q) w).at ≡ q.at
unfolding stored
accepted_end a q w z = go (leb (size a.ranges) (room w)) z
  where
    go : (b : Bool) → (kept a q w b).code ≡ 0 → (kept a q w b).at ≡ q.at
    go true z = refl
    go false z = absurd (omega (arith, z))

other_steps : (a : Found) (q : Place) (n : ℕ) (w : List ℕ) → stored (λ _. no_header) (got a (place q.at n)) w ≡ with_steps n (stored (λ _. no_header) (got a q) w)
unfolding stored
other_steps a q n w = go (leb (size a.ranges) (room w))
  where
    go : (b : Bool) → kept a (place q.at n) w b ≡ with_steps n (kept a q w b)
    go true = refl
    go false = refl

module _ (mode : Mode) (s w : List ℕ) (z : (run mode s w).code ≡ 0) where
  parts : (length s ≤ longest_input) × (a : Found) × (q : Place) × (run_from mode s (from 0) ≡ got a q)
  unfolding run run_from
  parts = read_out s w (λ _. no_header) (datagrams mode (length s) s (from 0)) (λ c a n. run_coded mode (length s) s (from 0)) z

  in_base : RunInBase s (from 0) parts.1 parts.2
  unfolding run_from
  in_base = run_in_base mode s (length s) (from 0) (omega arith) parts.3

  said : run mode s w ≡ stored (λ _. no_header) (got parts.1 parts.2) w
  said = run_said mode s w parts.0 parts.3

  end_is : (run mode s w).at ≡ parts.2.at
  end_is = ap (λ (a : Answer). a.at) said ∙ accepted_end parts.1 parts.2 w (ap (λ (a : Answer). a.code) (sym said) ∙ z)

  -- the base mode's run over the bytes up to where this one ended answers the same, but for the steps
  pub run_up_to : (n : ℕ) × (run base (take (run mode s w).at s) w ≡ with_steps n (run mode s w))
  run_up_to =
      let l = length-take parts.2.at s in (
        in_base.steps,
        ap (λ (m : ℕ). run base (take m s) w) end_is
            ∙ run_said base (take parts.2.at s) w (omega (arith, l, parts.0)) in_base.is
            ∙ other_steps parts.1 parts.2 in_base.steps w
            ∙ ap (with_steps in_base.steps) (sym said),
      )

  -- and so it is with the steps, where all of the input was read
  pub run_to_end : (run mode s w).at ≡ length s → run base s w ≡ run mode s w
  run_to_end e =
      let k : parts.2.at ≡ length s = sym end_is ∙ e in
      let t : take parts.2.at s ≡ s = take_all parts.2.at s (omega (arith, k)) in
      ap (λ (u : List ℕ). run base u w) (sym t)
      ∙ run_said base (take parts.2.at s) w (rw t parts.0) in_base.is
      ∙ ap (λ (n : ℕ). stored (λ _. no_header) (got parts.1 (place parts.2.at n)) w) (in_base.same k)
      ∙ sym said
