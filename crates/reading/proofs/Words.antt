-- A run of words in one comparison is that many single words, refusals included; and so is a row of word fields. Assumes nothing.
use Prim.Native.Nat.{ℕ, zero, suc, ◌+◌, ◌*◌, ◌-◌, ◌/◌, ◌≤◌, ◌<◌}
use mathlib.Core.Path.{◌≡◌, refl, sym, ap, ◌∙◌}
use mathlib.Core.Bool.{Bool, true, false}
use mathlib.Core.List.{List, [], ◌∷◌}
use native.Mathlib.Omega.{arith}
use borrow.Author.Tests.{le-leb, lt-leb, leb-true, leb-false}
use lib.Dec.{leb}
use lib.ListN.{length}
use Rattle.reading.specs.Script.{Value, number, nothing, ◌⊞◌, word}
use Rattle.reading.specs.Cursor.{Place, Out, got, stop, then, on, read_item, times, follow}
use Rattle.reading.specs.Bytes.{be4}
use Rattle.reading.specs.Layout.{plain, any_word, words, last_number}
use Rattle.reading.proofs.Items.{never}
use Rattle.reading.proofs.Fields.{field_out, fields_out}
use Rattle.reading.proofs.Stands.{place}

-- the same place, said in two ways
pub same_got : {A : Type 0} (a : A) (i j k l : ℕ) → i ≡ j → k ≡ l → got a (place i k) ≡ got a (place j l)
same_got a i j k l e f = cc

pub same_stop : {A : Type 0} (c i j k l : ℕ) → i ≡ j → k ≡ l → ◌≡◌ {A = Out A} (stop c i k) (stop c j l)
same_stop c i j k l e f = cc

same_place : {q r : Place} → got nothing q ≡ got nothing r → q ≡ r
same_place e = cc

-- a refusal is the same, of whatever it refuses
same_refusal : {A B : Type 0} {c a n d b m : ℕ} → ◌≡◌ {A = Out A} (stop c a n) (stop d b m) → ◌≡◌ {A = Out B} (stop d b m) (stop c a n)
same_refusal {A} {B} {c} {a} {n} {d} {b} {m} e =
    let i : c ≡ d = cc in
    let j : a ≡ b = cc in
    let k : n ≡ m = cc in
    rw (i, j, k)

module _ (s : List ℕ) where
  any_got : (p : Place) → p.at + 4 ≤ length s → follow any_word s p ≡ got nothing (on 4 p)
  unfolding follow read_item
  any_got p h = simp (le-leb _ _ h)

  any_stop : (p : Place) → length s < p.at + 4 → follow any_word s p ≡ stop 2 p.at p.steps
  unfolding follow read_item
  any_stop p h = simp (lt-leb _ _ h)

  more : (n : ℕ) (p : Place) → p.at + 4 ≤ length s → times (suc n) (follow any_word) s p ≡ then (times n (follow any_word) s (on 4 p)) (λ b e. got (nothing ⊞ b) e)
  unfolding times
  more n p h = rw (any_got p h)

  -- all of them are there
  pub words_got : (n : ℕ) (p : Place) → p.at + 4 * n ≤ length s → times n (follow any_word) s p ≡ got nothing (place (p.at + 4 * n) (p.steps + n))
  unfolding times
  words_got zero p h = same_got nothing _ _ _ _ (omega arith) (omega arith)
  words_got (suc n) p h =
      more n p (omega arith)
      ∙ rw (words_got n (on 4 p) (omega arith)) (same_got nothing _ _ _ _ (omega arith) (omega arith))

  -- k of them are there, and the next is not
  pub words_stop : (n k : ℕ) (p : Place) → k < n → p.at + 4 * k ≤ length s → length s < p.at + 4 * k + 4 → times n (follow any_word) s p ≡ stop 2 (p.at + 4 * k) (p.steps + k)
  unfolding times
  words_stop zero k p l h g = absurd (omega arith)
  words_stop (suc n) zero p l h g = rw (any_stop p (omega arith)) (same_stop 2 _ _ _ _ (omega arith) (omega arith))
  words_stop (suc n) (suc k) p l h g =
      more n p (omega arith)
      ∙ rw (words_stop n k (on 4 p) (omega arith) (omega arith) (omega arith)) (same_stop 2 _ _ _ _ (omega arith) (omega arith))

-- ---- a row of n word fields

-- the numbers of n words, from k bytes after `at` on; k is a numeral in the code, and counts up by computing
abbrev pub numbers_from : ℕ → List ℕ → (at k : ℕ) → List Value
numbers_from zero s at k = []
numbers_from (suc n) s at k = number (be4 s (at + k)) ∷ numbers_from n s at (k + 4)

abbrev pub numbers : ℕ → List ℕ → (at : ℕ) → List Value
numbers zero s at = []
numbers (suc n) s at = number (be4 s at) ∷ numbers_from n s at 4

shifted : (n : ℕ) (s : List ℕ) (at k : ℕ) → numbers_from n s (at + 4) k ≡ numbers_from n s at (k + 4)
shifted zero s at k = refl
shifted (suc n) s at k =
    let e : at + 4 + k ≡ at + (k + 4) = omega arith in
    ap (λ (j : ℕ). number (be4 s j) ∷ numbers_from n s (at + 4) (k + 4)) e
    ∙ ap (λ (l : List Value). number (be4 s (at + (k + 4))) ∷ l) (shifted n s at (k + 4))

next_numbers : (n : ℕ) (s : List ℕ) (at : ℕ) → numbers n s (at + 4) ≡ numbers_from n s at 4
next_numbers zero s at = refl
next_numbers (suc n) s at = ap (λ (l : List Value). number (be4 s (at + 4)) ∷ l) (shifted n s at 4)

-- the last of them
pub last_word : (n : ℕ) (s : List ℕ) (at : ℕ) → last_number (numbers (suc n) s at) ≡ be4 s (at + 4 * n)
unfolding last_number
last_word n s at = go n
  where
    from_there : (n k : ℕ) (v : Value) → last_number (v ∷ numbers_from (suc n) s at k) ≡ be4 s (at + (k + 4 * n))
    from_there zero k v = let z : k ≡ k + 4 * 0 = omega arith in ap (λ (j : ℕ). be4 s (at + j)) z
    from_there (suc n) k v =
        let z : k + 4 + 4 * n ≡ k + 4 * suc n = omega arith in
        from_there n (k + 4) (number (be4 s (at + k))) ∙ ap (λ (j : ℕ). be4 s (at + j)) z

    go : (n : ℕ) → last_number (numbers (suc n) s at) ≡ be4 s (at + 4 * n)
    go zero = let z : at ≡ at + 4 * 0 = omega arith in ap (λ (j : ℕ). be4 s j) z
    go (suc n) = let z : 4 + 4 * n ≡ 4 * suc n = omega arith in from_there n 4 (number (be4 s at)) ∙ ap (λ (j : ℕ). be4 s (at + j)) z

module _ (s : List ℕ) where
  word_there : (p : Place) → p.at + 4 ≤ length s → field_out (plain word) s p ≡ got (number (be4 s p.at)) (on 4 p)
  unfolding field_out read_item
  word_there p h = simp (le-leb _ _ h)

  word_missing : (p : Place) → length s < p.at + 4 → field_out (plain word) s p ≡ stop 2 p.at p.steps
  unfolding field_out read_item
  word_missing p h = simp (lt-leb _ _ h)

  pub row_got : (n : ℕ) (p : Place) → p.at + 4 * n ≤ length s → fields_out (words n) s p ≡ got (numbers n s p.at) (place (p.at + 4 * n) (p.steps + n))
  unfolding fields_out
  row_got zero p h = same_got [] _ _ _ _ (omega arith) (omega arith)
  row_got (suc n) p h =
      rw (word_there p (omega arith), row_got n (on 4 p) (omega arith), next_numbers n s p.at) (same_got _ _ _ _ _ (omega arith) (omega arith))

  pub row_stop : (n k : ℕ) (p : Place) → k < n → p.at + 4 * k ≤ length s → length s < p.at + 4 * k + 4 → fields_out (words n) s p ≡ stop 2 (p.at + 4 * k) (p.steps + k)
  unfolding fields_out
  row_stop zero k p l h g = absurd (omega arith)
  row_stop (suc n) zero p l h g = rw (word_missing p (omega arith)) (same_stop 2 _ _ _ _ (omega arith) (omega arith))
  row_stop (suc n) (suc k) p l h g =
      rw (word_there p (omega arith), row_stop n k (on 4 p) (omega arith) (omega arith) (omega arith)) (same_stop 2 _ _ _ _ (omega arith) (omega arith))

  -- a run of n words that were passed, or not, is a row of n fields
  module _ (n : ℕ) (p : Place) (i : p.at ≤ length s) where
    pub run_row : {q : Place} → got nothing q ≡ times n (follow any_word) s p → (p.at + 4 * n ≤ length s) × (fields_out (words n) s p ≡ got (numbers n s p.at) q)
    run_row {q} e = go (leb (4 * n) (length s - p.at)) refl
      where
        go : (t : Bool) → leb (4 * n) (length s - p.at) ≡ t → (p.at + 4 * n ≤ length s) × (fields_out (words n) s p ≡ got (numbers n s p.at) q)
        go true t =
            let h : p.at + 4 * n ≤ length s = omega (arith, leb-true) in
            let k : got nothing q ≡ got nothing (place (p.at + 4 * n) (p.steps + n)) = e ∙ words_got s n p h in
            (h, row_got n p h ∙ ap (λ (r : Place). got (numbers n s p.at) r) (sym (same_place k)))
        go false t =
            let j = (length s - p.at) / 4 in
            never (sym (e ∙ words_stop s n j p (omega (arith, leb-false)) (omega arith) (omega arith)))

    pub run_cut : {c a m : ℕ} → stop c a m ≡ times n (follow any_word) s p → fields_out (words n) s p ≡ stop c a m
    run_cut {c} {a} {m} e = go (leb (4 * n) (length s - p.at)) refl
      where
        go : (t : Bool) → leb (4 * n) (length s - p.at) ≡ t → fields_out (words n) s p ≡ stop c a m
        go true t = never (e ∙ words_got s n p (omega (arith, leb-true)))
        go false t =
            let j = (length s - p.at) / 4 in
            let k : stop c a m ≡ stop 2 (p.at + 4 * j) (p.steps + j) = e ∙ words_stop s n j p (omega (arith, leb-false)) (omega arith) (omega arith) in
            row_stop n j p (omega (arith, leb-false)) (omega arith) (omega arith) ∙ same_refusal k
