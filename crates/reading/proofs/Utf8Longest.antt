-- The longest well-formed beginning of a text: it is one, no longer one is, and it ends where no sequence of the table begins. Assumes nothing.
use Prim.Native.Nat.{ℕ, zero, suc, ◌+◌, ◌-◌, ◌≤◌, ◌<◌}
use mathlib.Core.Path.{◌≡◌, refl, sym, ap, ◌∙◌}
use mathlib.Core.Bool.{Bool, true, false, cond}
use mathlib.Core.List.{List, [], ◌∷◌, ◌++◌, append_assoc, append-nil}
use native.Mathlib.Omega.{arith}
use borrow.Author.Tests.{leb-true, leb-false}
use lib.Dec.{leb}
use lib.ListN.{length, take, drop, length-drop, take-append-drop}
use lib.Seq.{take_all, length-take-le, take-add, drop-length, drop-drop, drop-append-le}
use Rattle.reading.specs.Utf8.{utf8_1, utf8_2, utf8_3, utf8_4, utf8, longest_to, well_formed_of, Longest}
use Rattle.reading.proofs.Utf8.{width_4, width_3, width_2, width, width_length, ill_formed_of, past_width}

no : {A : Type 0} → true ≡ false → A
no e = let z : ◌≡◌ {A = ℕ} 0 1 = cc in absurd (omega arith)

-- ---- a beginning, and the longest

-- of the beginnings of at most n bytes
longest_in : (n : ℕ) (s : List ℕ) → (longest_to n s ≤ n) × (utf8 (take (longest_to n s) s) ≡ true) × ((m : ℕ) → longest_to n s < m → m ≤ n → utf8 (take m s) ≡ false)
unfolding longest_to utf8
longest_in zero s = (omega arith, refl, λ m h k. absurd (omega arith))
longest_in (suc n) s = go (utf8 (take (suc n) s)) refl (longest_in n s)
  where
    go : (b : Bool) → utf8 (take (suc n) s) ≡ b
        → (longest_to n s ≤ n) × (utf8 (take (longest_to n s) s) ≡ true) × ((m : ℕ) → longest_to n s < m → m ≤ n → utf8 (take m s) ≡ false)
        → (cond b (suc n) (longest_to n s) ≤ suc n) × (utf8 (take (cond b (suc n) (longest_to n s)) s) ≡ true)
        × ((m : ℕ) → cond b (suc n) (longest_to n s) < m → m ≤ suc n → utf8 (take m s) ≡ false)
    go true e (l, t, f) = (omega arith, e, λ m h k. absurd (omega arith))
    go false e (l, t, f) = (omega arith, t, λ m h k. last m h k (leb m n) refl)
      where
        last : (m : ℕ) → longest_to n s < m → m ≤ suc n → (x : Bool) → leb m n ≡ x → utf8 (take m s) ≡ false
        last m h k true x = f m h (leb-true m n x)
        last m h k false x = let y = leb-false m n x in let z : m ≡ suc n = omega arith in rw z e

pub longest : (s : List ℕ) → Longest s (well_formed_of s)
longest s = let r = longest_in (length s) s in record { within = r.0; well = r.1; most = r.2 }

-- there is one only
pub longest_is : {s : List ℕ} {n m : ℕ} → Longest s n → Longest s m → n ≡ m
longest_is {s} {n} {m} a b = go (leb n m) (leb m n) refl refl
  where
    go : (x y : Bool) → leb n m ≡ x → leb m n ≡ y → n ≡ m
    go true true e f = omega (arith, leb-true n m e, leb-true m n f)
    go true false e f = no (sym b.well ∙ a.most m (leb-false m n f) b.within)
    go false y e f = no (sym a.well ∙ b.most n (leb-false n m e) a.within)

-- what is not well-formed has a longest beginning that is shorter
pub longest_short : {s : List ℕ} {n : ℕ} → Longest s n → utf8 s ≡ false → n < length s
longest_short {s} {n} h e = go (leb (length s) n) refl
  where
    go : (x : Bool) → leb (length s) n ≡ x → n < length s
    go true x = no (sym h.well ∙ ap utf8 (take_all n s (leb-true (length s) n x)) ∙ e)
    go false x = leb-false (length s) n x

pub short_ill : {s : List ℕ} {n : ℕ} → Longest s n → n < length s → utf8 s ≡ false
short_ill {s} h l = ap utf8 (sym (take_all (length s) s (omega arith))) ∙ h.most (length s) l (omega arith)

-- ---- the sequence in front, whatever stands behind it

front_4 : (a b c : ℕ) (s y : List ℕ) → 0 < width_4 a b c s → (width_4 a b c s ≡ 4) × (width_4 a b c (take 1 s ++ y) ≡ 4)
front_4 a b c [] y h = absurd (omega arith)
front_4 a b c (d ∷ s) y h = go (utf8_4 a b c d) h
  where
    go : (x : Bool) → 0 < cond {A = ℕ} x 4 0 → (cond {A = ℕ} x 4 0 ≡ 4) × (cond {A = ℕ} x 4 0 ≡ 4)
    go true h = (refl, refl)
    go false h = absurd (omega arith)

front_3 : (a b : ℕ) (s y : List ℕ) → 0 < width_3 a b s → (k : ℕ) × (width_3 a b s ≡ suc (suc k)) × (width_3 a b (take k s ++ y) ≡ suc (suc k))
front_3 a b [] y h = absurd (omega arith)
front_3 a b (c ∷ s) y h = go (utf8_3 a b c) refl h
  where
    go : (x : Bool) → utf8_3 a b c ≡ x → 0 < cond x 3 (width_4 a b c s) → (k : ℕ) × (cond x 3 (width_4 a b c s) ≡ suc (suc k)) × (width_3 a b (take k (c ∷ s) ++ y) ≡ suc (suc k))
    go true e h = (1, refl, rw e)
    go false e h = let r = front_4 a b c s y h in (2, r.0, rw e r.1)

front_2 : (a : ℕ) (s y : List ℕ) → 0 < width_2 a s → (k : ℕ) × (width_2 a s ≡ suc k) × (width_2 a (take k s ++ y) ≡ suc k)
front_2 a [] y h = absurd (omega arith)
front_2 a (b ∷ s) y h = go (utf8_2 a b) refl h
  where
    go : (x : Bool) → utf8_2 a b ≡ x → 0 < cond x 2 (width_3 a b s) → (k : ℕ) × (cond x 2 (width_3 a b s) ≡ suc k) × (width_2 a (take k (b ∷ s) ++ y) ≡ suc k)
    go true e h = (1, refl, rw e)
    go false e h = let r = front_3 a b s y h in (suc r.0, r.1, rw e r.2)

front : (t y : List ℕ) → 0 < width t → width (take (width t) t ++ y) ≡ width t
unfolding width
front [] y h = absurd (omega arith)
front (a ∷ s) y h = go (utf8_1 a) refl h
  where
    go : (x : Bool) → utf8_1 a ≡ x → 0 < cond x 1 (width_2 a s) → width (take (cond x 1 (width_2 a s)) (a ∷ s) ++ y) ≡ cond x 1 (width_2 a s)
    go true e h = rw e
    go false e h = let r = front_2 a s y h in rw (r.1, e) r.2

-- fewer bytes fit no more rows
few_4 : (a b c j : ℕ) (s : List ℕ) → width_4 a b c s ≡ 0 → width_4 a b c (take j s) ≡ 0
few_4 a b c zero s h = refl
few_4 a b c (suc j) [] h = refl
few_4 a b c (suc j) (d ∷ s) h = h

few_3 : (a b j : ℕ) (s : List ℕ) → width_3 a b s ≡ 0 → width_3 a b (take j s) ≡ 0
few_3 a b zero s h = refl
few_3 a b (suc j) [] h = refl
few_3 a b (suc j) (c ∷ s) h = go (utf8_3 a b c) h
  where
    go : (x : Bool) → cond x 3 (width_4 a b c s) ≡ 0 → cond x 3 (width_4 a b c (take j s)) ≡ 0
    go true h = h
    go false h = few_4 a b c j s h

few_2 : (a j : ℕ) (s : List ℕ) → width_2 a s ≡ 0 → width_2 a (take j s) ≡ 0
few_2 a zero s h = refl
few_2 a (suc j) [] h = refl
few_2 a (suc j) (b ∷ s) h = go (utf8_2 a b) h
  where
    go : (x : Bool) → cond x 2 (width_3 a b s) ≡ 0 → cond x 2 (width_3 a b (take j s)) ≡ 0
    go true h = h
    go false h = few_3 a b j s h

few : (j : ℕ) (t : List ℕ) → width t ≡ 0 → width (take j t) ≡ 0
unfolding width
few zero t h = refl
few (suc j) [] h = refl
few (suc j) (a ∷ s) h = go (utf8_1 a) h
  where
    go : (x : Bool) → cond x 1 (width_2 a s) ≡ 0 → cond x 1 (width_2 a (take j s)) ≡ 0
    go true h = h
    go false h = few_2 a j s h

-- ---- two texts joined

-- a well-formed text in front leaves what follows it to decide; n bounds its length
joined_to : (n : ℕ) (x y : List ℕ) → length x ≤ n → utf8 x ≡ true → utf8 (x ++ y) ≡ utf8 y
joined_to zero [] y h e = refl
joined_to zero (a ∷ x) y h e = absurd (omega arith)
joined_to (suc n) [] y h e = refl
joined_to (suc n) (a ∷ x) y h e = go (λ z. joined_to n z y) (leb 1 (width (a ∷ x))) refl
  where
    t : List ℕ
    t = a ∷ x

    go : ((z : List ℕ) → length z ≤ n → utf8 z ≡ true → utf8 (z ++ y) ≡ utf8 y) → (b : Bool) → leb 1 (width t) ≡ b → utf8 (t ++ y) ≡ utf8 y
    go again false b =
        let z = leb-false 1 (width t) b in
        no (sym e ∙ ill_formed_of t (omega arith) (omega arith))
    go again true b =
        let z : 0 < width t = omega (arith, leb-true 1 (width t) b) in
        let r : take (width t) t ++ (drop (width t) t ++ y) ≡ t ++ y = sym (append_assoc (take (width t) t) (drop (width t) t) y) ∙ ap (λ (l : List ℕ). l ++ y) (take-append-drop (width t) t) in
        let f : width (t ++ y) ≡ width t = ap width (sym r) ∙ front t (drop (width t) t ++ y) z in
        let i : utf8 (drop (width t) t) ≡ true = past_width t z ∙ e in
        let k : length (drop (width t) t) ≤ n = omega (arith, length-drop (width t) t, z, width_length t) in
        let d : drop (width t) (t ++ y) ≡ drop (width t) t ++ y = drop-append-le (width t) t y (width_length t) in
        sym (past_width (t ++ y) (rw f z)) ∙ ap (λ (m : ℕ). utf8 (drop m (t ++ y))) f ∙ ap utf8 d ∙ again (drop (width t) t) k i

pub text_joined : (x y : List ℕ) → utf8 x ≡ true → utf8 (x ++ y) ≡ utf8 y
text_joined x y e = joined_to (length x) x y (omega arith) e

-- ---- a walk by sequences

-- the sequence in front is well-formed
front_well : (t : List ℕ) → 0 < width t → utf8 (take (width t) t) ≡ true
unfolding utf8
front_well t z =
    let x = take (width t) t in
    let f : width x ≡ width t = ap width (sym (append-nil x)) ∙ front t [] z in
    let g : length x ≡ width t = length-take-le (width t) t (width_length t) in
    sym (past_width x (rw f z)) ∙ ap (λ (k : ℕ). utf8 (drop k x)) (f ∙ sym g) ∙ ap utf8 (drop-length x)

-- behind a well-formed beginning the longest one goes on
longest_behind : (s : List ℕ) (at : ℕ) → at ≤ length s → utf8 (take at s) ≡ true → {n : ℕ} → Longest (drop at s) n → Longest s (at + n)
longest_behind s at l w {n} h = record {
  within = omega (arith, h.within, length-drop at s);
  well = more n ∙ h.well;
  most = λ m g k.
      let j : at + (m - at) ≡ m = omega arith in
      ap (λ (i : ℕ). utf8 (take i s)) (sym j) ∙ more (m - at) ∙ h.most (m - at) (omega arith) (omega (arith, length-drop at s));
}
  where
    more : (m : ℕ) → utf8 (take (at + m) s) ≡ utf8 (take m (drop at s))
    more m = ap utf8 (take-add at m s) ∙ text_joined (take at s) (take m (drop at s)) w

-- where the longest well-formed beginning of what stands from a place on ends
abbrev pub ends : List ℕ → ℕ → ℕ
ends s at = at + well_formed_of (drop at s)

-- past a sequence it stays
pub sequence_on : (s : List ℕ) (p w r : ℕ) → width (drop p s) ≡ w → 0 < w → p + w ≡ r → ends s r ≡ ends s p
sequence_on s p w r e h z =
    let t = drop p s in
    let k : 0 < width t = omega arith in
    let f : width t + well_formed_of (drop (width t) t) ≡ well_formed_of t =
    longest_is (longest_behind t (width t) (width_length t) (front_well t k) (longest (drop (width t) t))) (longest t) in
    let g : well_formed_of (drop (width t) t) ≡ well_formed_of (drop r s) = ap (λ (i : ℕ). well_formed_of (drop i t)) e ∙ ap well_formed_of (drop-drop w p s ∙ ap (λ (i : ℕ). drop i s) z) in
    omega (arith, e, f, g)

-- and where none begins, it is there
pub none_ends : (t : List ℕ) → width t ≡ 0 → well_formed_of t ≡ 0
unfolding utf8
none_ends t h = longest_is (longest t) (record {
  within = omega arith;
  well = refl;
  most = λ m g k. let q : length (take m t) ≡ m = length-take-le m t k in ill_formed_of (take m t) (omega arith) (few m t h);
})

-- ---- the whole, by where it ends

pub all_well : (s : List ℕ) → length s ≤ well_formed_of s → utf8 s ≡ true
all_well s h = ap utf8 (sym (take_all (well_formed_of s) s h)) ∙ (longest s).well

pub part_well : (s : List ℕ) → well_formed_of s < length s → utf8 s ≡ false
part_well s h = short_ill (longest s) h
