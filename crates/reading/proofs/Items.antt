-- What an item that was read, or refused, says of the input. Assumes nothing.
use Prim.Native.Nat.{ℕ, ◌+◌, ◌≤◌}
use mathlib.Core.Path.{◌≡◌, refl, sym, ap, ◌∙◌}
use mathlib.Core.Bool.{Bool, true, false, cond}
use mathlib.Core.List.{List}
use native.Mathlib.Omega.{arith}
use borrow.Author.Tests.{le-leb, leb-true}
use lib.Dec.{leb}
use lib.ListN.{length}
use lib.Seq.{length-take-le}
use Rattle.reading.specs.Bytes.{be4, padded}
use Rattle.reading.specs.Script.{Span, number, word, tested}
use Rattle.reading.specs.Cursor.{Place, Out, got, stop, then, on, fixed, awaited, read_opaque, read_item, held_to}
use Rattle.reading.specs.Sizes.{longest_opaque}

-- a refusal is no answer
pub never : {A B : Type 0} {c a n : ℕ} {x : A} {q : Place} → ◌≡◌ {A = Out A} (stop c a n) (got x q) → B
never e = let z : ◌≡◌ {A = ℕ} 0 1 = cc in absurd (omega arith)

-- what two readers gave in a row, the first of them gave
pub record Split {A B : Type 0} (o : Out A) (k : A → Place → Out B) (b : B) (e : Place) : Type 0 where
  pub value : A
  pub place : Place
  pub first : o ≡ got value place
  pub second : k value place ≡ got b e

pub split : {A B : Type 0} (o : Out A) (k : A → Place → Out B) {b : B} {e : Place} → then o k ≡ got b e → Split o k b e
split (got a p) k h = record { value = a; place = p; first = refl; second = h }
split (stop c a n) k h = never h

-- the input up to the end of a span ends there
pub held_to_end : (x : Span) (s : List ℕ) → x.start + x.count ≤ length s → length (held_to x s) ≡ x.start + x.count
held_to_end x s h = length-take-le (x.start + x.count) s h

-- what holds of both branches
pub either : {A : Type 0} (P : A → Type 0) (b : Bool) {x y : A} → P x → P y → P (cond b x y)
either P true h g = h
either P false h g = g

-- a test that would have refused, and did not, was passed
passed : {A : Type 0} (t : Bool) (o : Out A) (c a n : ℕ) {x : A} {q : Place} → cond t o (stop c a n) ≡ got x q → (t ≡ true) × (o ≡ got x q)
passed true o c a n e = (refl, e)
passed false o c a n e = never e

-- an item of n bytes that was read: it was there
pub fixed_read : {A : Type 0} (n : ℕ) (a : A) (s : List ℕ) (p : Place) {b : A} {q : Place} → fixed n a s p ≡ got b q
    → (p.at + n ≤ length s) × (b ≡ a) × (q.at ≡ p.at + n) × (q.steps ≡ p.steps + 1)
unfolding fixed
fixed_read {A} n a s p {b} {q} h =
    let r = passed (leb (p.at + n) (length s)) _ _ _ _ h in
    let e : got a (on n p) ≡ got b q = r.1 in
    (leb-true _ _ r.0, cc, cc, cc)

-- whether an item of n bytes is there does not hang on its value
module _ (s : List ℕ) (p : Place) (n : ℕ) {A B : Type 0} (a : A) (b : B) where
  pub fixed_as : {x : A} {q : Place} → got x q ≡ fixed n a s p → got b q ≡ fixed n b s p
  unfolding fixed
  fixed_as {x} {q} h = go (leb (p.at + n) (length s)) h
    where
      go : (t : Bool) → got x q ≡ cond t (got a (on n p)) (stop 2 p.at p.steps) → got b q ≡ cond t (got b (on n p)) (stop 2 p.at p.steps)
      go true e = let z : q ≡ on n p = cc in ap (λ (t : Place). got b t) z
      go false e = never (sym e)

  pub fixed_stops : {c i k : ℕ} → stop c i k ≡ fixed n a s p → stop c i k ≡ fixed n b s p
  unfolding fixed
  fixed_stops {c} {i} {k} h = go (leb (p.at + n) (length s)) h
    where
      go : (t : Bool) → stop c i k ≡ cond t (got a (on n p)) (stop 2 p.at p.steps) → stop c i k ≡ cond t (got b (on n p)) (stop 2 p.at p.steps)
      go true e = never e
      go false e = cc

-- a word that was read
pub word_seen : (s : List ℕ) (p : Place) {v : ℕ} {q : Place} → got (number v) q ≡ read_item word s p → (p.at + 4 ≤ length s) × (v ≡ be4 s p.at) × (q ≡ on 4 p)
unfolding read_item
word_seen s p {v} e =
    let r = fixed_read 4 (number (be4 s p.at)) s p (sym e) in
    let i : number v ≡ number (be4 s p.at) = r.1 in
    (r.0, cc, λ j. record { at = r.2 j; steps = r.3 j })

-- a word that is tested, by the word alone
module _ (s : List ℕ) (p : Place) (ok : ℕ → Bool) (code : ℕ) where
  pub tested_cut : {c a n : ℕ} → stop c a n ≡ read_item word s p → stop c a n ≡ read_item (tested ok code) s p
  unfolding read_item fixed
  tested_cut {c} {a} {n} e = go (leb (p.at + 4) (length s)) e
    where
      go : (t : Bool) → stop c a n ≡ cond t (got (number (be4 s p.at)) (on 4 p)) (stop 2 p.at p.steps)
          → stop c a n ≡ cond t (cond (ok (be4 s p.at)) (got (number (be4 s p.at)) (on 4 p)) (stop code p.at p.steps)) (stop 2 p.at p.steps)
      go true h = never h
      go false h = h

  module _ {v : ℕ} {q : Place} (e : got (number v) q ≡ read_item word s p) where
    pub tested_got : ok v ≡ true → got (number v) q ≡ read_item (tested ok code) s p
    unfolding read_item
    tested_got o =
        let r = word_seen s p e in
        let y : ok (be4 s p.at) ≡ true = ap ok (sym r.1) ∙ o in
        rw (le-leb (p.at + 4) (length s) r.0, y, r.2) (ap (λ (n : ℕ). got (number n) (on 4 p)) r.1)

    pub tested_refused : ok v ≡ false → stop code p.at p.steps ≡ read_item (tested ok code) s p
    unfolding read_item
    tested_refused o =
        let r = word_seen s p e in
        let y : ok (be4 s p.at) ≡ false = ap ok (sym r.1) ∙ o in
        rw (le-leb (p.at + 4) (length s) r.0, y)

-- an opaque that was read
pub record OpaqueRead (s : List ℕ) (p : Place) (x : Span) (q : Place) : Type 0 where
  pub small : x.count ≤ longest_opaque
  pub count : be4 s p.at ≡ x.count
  pub fits : p.at + (4 + padded x.count) ≤ length s
  pub start : x.start ≡ p.at + 4
  pub at : q.at ≡ p.at + (4 + padded x.count)
  pub steps : q.steps ≡ p.steps + 1

pub opaque_read : (s : List ℕ) (p : Place) (x : Span) (q : Place) → read_opaque s p ≡ got x q → OpaqueRead s p x q
unfolding read_opaque
opaque_read s p x q h =
    let w = split (fixed 4 (be4 s p.at) s p) _ h in
    let n = w.value in
    let f = fixed_read 4 (be4 s p.at) s p w.first in
    let r = passed (leb n longest_opaque) _ _ _ _ w.second in
    let u = passed (leb (p.at + awaited n) (length s)) _ _ _ _ r.1 in
    let e : got (record { start = w.place.at; count = n }) (on (4 + padded n) p) ≡ got x q = u.1 in
    let v : x ≡ record { start = w.place.at; count = n } = cc in
    let z : q ≡ on (4 + padded n) p = cc in
    let c : x.count ≡ n = ap (λ (y : Span). y.count) v in
    let l : n ≤ longest_opaque = leb-true _ _ r.0 in
    let m : p.at + awaited n ≤ length s = leb-true _ _ u.0 in
    record {
      small = rw c (omega arith);
      count = sym f.1 ∙ sym c;
      fits = rw c (omega arith);
      start = ap (λ (y : Span). y.start) v ∙ f.2;
      at = rw c (ap (λ (t : Place). t.at) z);
      steps = ap (λ (t : Place). t.steps) z;
    }

-- ---- where an item is refused

-- the codes that a reading may be refused with
abbrev pub Code : ℕ → Type 0
Code c = (2 ≤ c) × (c ≤ 8)

-- something is given, or there is a refusal at p
pub data OrHere (p : Place) {A : Type 0} : Out A → Type 0 where
  given : {a : A} {q : Place} → OrHere p (got a q)
  refused : {c : ℕ} → Code c → OrHere p (stop c p.at p.steps)

here_then : {A B : Type 0} {p : Place} {o : Out A} {k : A → Place → Out B} → OrHere p o → ((a : A) (q : Place) → OrHere p (k a q)) → OrHere p (then o k)
here_then (given {a} {q}) h = h a q
here_then (refused c) h = refused c

module _ (s : List ℕ) (p : Place) where
  pub fixed_here : {A : Type 0} (n : ℕ) (a : A) → OrHere p (fixed n a s p)
  unfolding fixed
  fixed_here n a = either (OrHere p) (leb (p.at + n) (length s)) given (refused (omega arith, omega arith))

  pub opaque_here : OrHere p (read_opaque s p)
  unfolding read_opaque
  opaque_here = here_then (fixed_here 4 _) (λ n q.
      either (OrHere p) (leb n longest_opaque) (either (OrHere p) (leb (p.at + awaited n) (length s)) given (refused (omega arith, omega arith))) (refused (omega arith, omega arith)))
