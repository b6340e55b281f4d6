-- An opaque by its length word, and a string by its opaque. Assumes nothing.
use Prim.Native.Nat.{ℕ, ◌+◌, ◌-◌, ◌≤◌, ◌<◌}
use mathlib.Core.Path.{◌≡◌, sym, ap, ◌∙◌}
use mathlib.Core.Bool.{true, false, cond}
use mathlib.Core.List.{List}
use native.Mathlib.Omega.{arith}
use borrow.Author.Tests.{le-leb, lt-leb}
use lib.ListN.{length}
use Rattle.reading.specs.Bytes.{be4, padded}
use Rattle.reading.specs.Utf8.{utf8}
use Rattle.reading.specs.Script.{Span, number, part, Found, word, opaque, string, Script, within}
use Rattle.reading.specs.Cursor.{Place, Out, got, stop, then, fixed, awaited, bytes, ill_at, read_opaque, read_item, follow}
use Rattle.reading.specs.Sizes.{longest_opaque}
use Rattle.reading.proofs.Items.{never, split, fixed_stops, word_seen, opaque_read}

module _ (s : List ℕ) (p : Place) where
  pub opaque_cut : {c a n : ℕ} → stop c a n ≡ read_item word s p → stop c a n ≡ read_item opaque s p
  unfolding read_item
  opaque_cut e = rw (← fixed_stops s p 4 (number (be4 s p.at)) (be4 s p.at) e)

  module _ {n : ℕ} {q : Place} (e : got (number n) q ≡ read_item word s p) where
    pub opaque_long : longest_opaque < n → stop 5 p.at p.steps ≡ read_item opaque s p
    unfolding read_item
    opaque_long l = let w = word_seen s p e in simp (le-leb _ _ w.0, ← w.1, lt-leb _ _ l)

    pub opaque_short : n ≤ longest_opaque → length s - q.at < padded n → stop 2 p.at p.steps ≡ read_item opaque s p
    unfolding read_item
    opaque_short l r =
        let w = word_seen s p e in
        let a : q.at ≡ p.at + 4 = ap (λ (t : Place). t.at) w.2 in
        simp (le-leb _ _ w.0, ← w.1, le-leb _ _ l, lt-leb (p.at + awaited n) (length s) (omega arith))

    pub opaque_got : n ≤ longest_opaque → padded n ≤ length s - q.at → got (part (record { start = q.at; count = n })) (record { at = q.at + padded n; steps = q.steps }) ≡ read_item opaque s p
    unfolding read_item
    opaque_got l r =
        let w = word_seen s p e in
        let a : q.at ≡ p.at + 4 = ap (λ (t : Place). t.at) w.2 in
        let k : q.steps ≡ p.steps + 1 = ap (λ (t : Place). t.steps) w.2 in
        let z : p.at + (4 + padded n) ≡ p.at + 4 + padded n = omega arith in
        rw (le-leb _ _ w.0, ← w.1, le-leb _ _ l, le-leb (p.at + awaited n) (length s) (omega arith), a, k, z)

  -- where an opaque lies
  pub opaque_fits : {x : Span} {q : Place} → got (part x) q ≡ read_item opaque s p → x.start + x.count ≤ length s
  unfolding read_item
  opaque_fits {x} {q} e =
      let w = split (read_opaque s p) _ (sym e) in
      let r = opaque_read s p w.value w.place w.first in
      let h : got (part w.value) w.place ≡ got (part x) q = w.second in
      let i : w.value ≡ x = cc in
      rw (← i) (rw r.start (omega (arith, r.fits)))

  -- it is read whole before anything in it: where its payload or its pad is not there it is refused at its length word, whatever it holds
  pub whole_first : (body : Script) (k : Span → Found → Script) → p.at + 4 ≤ length s → be4 s p.at ≤ longest_opaque → length s < p.at + (4 + padded (be4 s p.at))
      → follow (within body k) s p ≡ stop 2 p.at p.steps
  unfolding follow fixed
  whole_first body k a b c = rw (le-leb _ _ a, le-leb _ _ b, lt-leb _ _ c)

  pub string_cut : {c a n : ℕ} → stop c a n ≡ read_item opaque s p → stop c a n ≡ read_item string s p
  unfolding read_item
  string_cut {c} {a} {n} e = go (read_opaque s p) e
    where
      go : (o : Out Span) → stop c a n ≡ then o (λ x q. got (part x) q) → stop c a n ≡ then o (λ x q. cond (utf8 (bytes s x)) (got (part x) q) (stop 7 (ill_at s x) p.steps))
      go (got x q) h = never h
      go (stop c' a' n') h = cc

  module _ {x : Span} {q : Place} (e : got (part x) q ≡ read_item opaque s p) where
    judged : read_item string s p ≡ cond (utf8 (bytes s x)) (got (part x) q) (stop 7 (ill_at s x) p.steps)
    unfolding read_item
    judged = go (read_opaque s p) e
      where
        go : (o : Out Span) → got (part x) q ≡ then o (λ y r. got (part y) r)
            → then o (λ y r. cond (utf8 (bytes s y)) (got (part y) r) (stop 7 (ill_at s y) p.steps)) ≡ cond (utf8 (bytes s x)) (got (part x) q) (stop 7 (ill_at s x) p.steps)
        go (got y r) h = let i : x ≡ y = cc in let j : q ≡ r = cc in rw (i, j)
        go (stop c a n) h = never (sym h)

    pub string_got : utf8 (bytes s x) ≡ true → got (part x) q ≡ read_item string s p
    string_got t = sym (judged ∙ rw t)

    pub string_refused : utf8 (bytes s x) ≡ false → stop 7 (ill_at s x) p.steps ≡ read_item string s p
    string_refused t = sym (judged ∙ rw t)
