-- What stands in front of a list of bytes, and what it says of the whole: a run of UTF8-1, or one sequence. Assumes nothing.
use Prim.Native.Nat.{ℕ, zero, suc, ◌≤◌, ◌<◌}
use mathlib.Core.Path.{◌≡◌, refl, sym, ◌∙◌, ap}
use mathlib.Core.Bool.{Bool, true, false, cond}
use mathlib.Core.List.{List, [], ◌∷◌}
use native.Mathlib.Omega.{arith}
use borrow.Author.Tests.{leb-true, leb-false, le-leb, lt-leb}
use lib.ListN.{length, drop}
use lib.Dec.{leb}
use Rattle.reading.specs.Utf8.{◌&◌, ◌or◌, among, tail, utf8_1, utf8_2, utf8_3, utf8_4, utf8}

-- how many bytes in front are UTF8-1
unfoldable pub plain : List ℕ → ℕ
plain [] = 0
plain (a ∷ s) = cond (utf8_1 a) (suc (plain s)) 0

-- how many bytes the sequence in front has, and 0 where no row of the table fits: the rows of four bytes, after a, b and c
abbrev pub width_4 : ℕ → ℕ → ℕ → List ℕ → ℕ
width_4 a b c [] = 0
width_4 a b c (d ∷ s) = cond (utf8_4 a b c d) 4 0

abbrev pub width_3 : ℕ → ℕ → List ℕ → ℕ
width_3 a b [] = 0
width_3 a b (c ∷ s) = cond (utf8_3 a b c) 3 (width_4 a b c s)

abbrev pub width_2 : ℕ → List ℕ → ℕ
width_2 a [] = 0
width_2 a (b ∷ s) = cond (utf8_2 a b) 2 (width_3 a b s)

-- every row
unfoldable pub width : List ℕ → ℕ
width [] = 0
width (a ∷ s) = cond (utf8_1 a) 1 (width_2 a s)

-- one test of a chain: shut, so that a search finds its way through the chain
unfoldable pub pick : {A : Type 0} → Bool → A → A → A
pick x u v = cond x u v

-- what n bytes in front leave: nothing well-formed, where n is 0
abbrev after : ℕ → List ℕ → Bool
after zero t = false
after (suc n) t = utf8 (drop (suc n) t)

or_false : (x : Bool) → (x or false) ≡ x
or_false true = refl
or_false false = refl

-- of two that never hold together, the first or the second
chosen : (x u r v : Bool) → (x ≡ true → r ≡ false) → r ≡ v → (x & u or r) ≡ cond x u v
chosen true u r v f e = rw (f refl) (or_false u)
chosen false u r v f e = e

held : (x u : Bool) → (x & u) ≡ cond x u false
held true u = refl
held false u = refl

-- two tests at once, and three, as code has them
pub both : {x y u v : Bool} → x ≡ u → y ≡ v → (x & y) ≡ (u & v)
both e f = cc

pub all_three : {x y z u v w : Bool} → x ≡ u → y ≡ v → z ≡ w → ((x & y) & z) ≡ (u & v & w)
all_three {u = u} {v} {w} e f g = both (both e f) g ∙ assoc u v w
  where
    assoc : (u v w : Bool) → ((u & v) & w) ≡ (u & v & w)
    assoc true v w = refl
    assoc false v w = refl

-- a range, by what is known of the number
module _ (lo hi a : ℕ) where
  pub among_below : a < lo → among lo hi a ≡ false
  unfolding among
  among_below h = simp (lt-leb _ _ h)

  pub among_from : lo ≤ a → leb a hi ≡ among lo hi a
  unfolding among
  among_from h = simp (le-leb _ _ h)

  pub among_above : hi < a → among lo hi a ≡ false
  unfolding among
  among_above h = go (leb lo a)
    where
      go : (x : Bool) → (x & leb a hi) ≡ false
      go true = lt-leb _ _ h
      go false = refl

  pub among_bounds : among lo hi a ≡ true → (lo ≤ a) × (a ≤ hi)
  unfolding among
  among_bounds h = go (leb lo a) (leb a hi) refl refl h
    where
      go : (x y : Bool) → leb lo a ≡ x → leb a hi ≡ y → (x & y) ≡ true → (lo ≤ a) × (a ≤ hi)
      go true true p q h = (leb-true _ _ p, leb-true _ _ q)
      go true false p q h = let z : ◌≡◌ {A = ℕ} 0 1 = cc in absurd (omega arith)
      go false y p q h = let z : ◌≡◌ {A = ℕ} 0 1 = cc in absurd (omega arith)

-- the rows of UTF8-3 and of UTF8-4, by the lead byte
pub rows_3 : (a b c : ℕ)
    → utf8_3 a b c
    ≡ pick (among 0xe0 0xe0 a) (among 0xa0 0xbf b & tail c)
    (pick (among 0xe1 0xec a) (tail b & tail c)
    (pick (among 0xed 0xed a) (among 0x80 0x9f b & tail c)
    (pick (among 0xee 0xef a) (tail b & tail c) false)))
unfolding pick
rows_3 a b c =
    chosen _ _ _ _ (λ h. let w = among_bounds 0xe0 0xe0 a h in simp (among_below 0xe1 0xec a (omega arith), among_below 0xed 0xed a (omega arith), among_below 0xee 0xef a (omega arith)))
    (chosen _ _ _ _ (λ h. let w = among_bounds 0xe1 0xec a h in simp (among_below 0xed 0xed a (omega arith), among_below 0xee 0xef a (omega arith)))
    (chosen _ _ _ _ (λ h. let w = among_bounds 0xed 0xed a h in simp (among_below 0xee 0xef a (omega arith)))
    (held (among 0xee 0xef a) _)))

pub rows_4 : (a b c d : ℕ)
    → utf8_4 a b c d
    ≡ pick (among 0xf0 0xf0 a) (among 0x90 0xbf b & tail c & tail d)
    (pick (among 0xf1 0xf3 a) (tail b & tail c & tail d)
    (pick (among 0xf4 0xf4 a) (among 0x80 0x8f b & tail c & tail d) false))
unfolding pick
rows_4 a b c d =
    chosen _ _ _ _ (λ h. let w = among_bounds 0xf0 0xf0 a h in simp (among_below 0xf1 0xf3 a (omega arith), among_below 0xf4 0xf4 a (omega arith)))
    (chosen _ _ _ _ (λ h. let w = among_bounds 0xf1 0xf3 a h in simp (among_below 0xf4 0xf4 a (omega arith)))
    (held (among 0xf4 0xf4 a) _))

-- a lead byte is of one width: where a row of one width fits, no row of a greater width does
below_2 : (a b : ℕ) → a < 0xc2 → utf8_2 a b ≡ false
below_2 a b h = simp (among_below 0xc2 0xdf a h)

below_3 : (a b c : ℕ) → a < 0xe0 → utf8_3 a b c ≡ false
below_3 a b c h =
    simp (among_below 0xe0 0xe0 a h, among_below 0xe1 0xec a (omega arith), among_below 0xed 0xed a (omega arith), among_below 0xee 0xef a (omega arith))

pub above_3 : (a b c : ℕ) → 0xef < a → utf8_3 a b c ≡ false
above_3 a b c h =
    simp (among_above 0xe0 0xe0 a (omega arith), among_above 0xe1 0xec a (omega arith), among_above 0xed 0xed a (omega arith), among_above 0xee 0xef a h)

below_4 : (a b c d : ℕ) → a < 0xf0 → utf8_4 a b c d ≡ false
below_4 a b c d h = simp (among_below 0xf0 0xf0 a h, among_below 0xf1 0xf3 a (omega arith), among_below 0xf4 0xf4 a (omega arith))

lead_1 : (a : ℕ) → utf8_1 a ≡ true → a < 0x80
lead_1 a h = let w = among_bounds 0x00 0x7f a h in omega arith

lead_2 : (a b : ℕ) → utf8_2 a b ≡ true → a < 0xe0
lead_2 a b h = go (among 0xc2 0xdf a) refl h
  where
    go : (x : Bool) → among 0xc2 0xdf a ≡ x → (x & tail b) ≡ true → a < 0xe0
    go true e h = let w = among_bounds 0xc2 0xdf a e in omega arith
    go false e h = let z : ◌≡◌ {A = ℕ} 0 1 = cc in absurd (omega arith)

lead_3 : (a b c : ℕ) → utf8_3 a b c ≡ true → a < 0xf0
lead_3 a b c h = go (leb a 0xef) refl
  where
    go : (x : Bool) → leb a 0xef ≡ x → a < 0xf0
    go true e = omega (arith, leb-true)
    go false e = let f = above_3 a b c (leb-false _ _ e) in let z : ◌≡◌ {A = ℕ} 0 1 = cc in absurd (omega arith)

alone : (x : Bool) → x ≡ cond x true false
alone true = refl
alone false = refl

after_cond : (x : Bool) (m n : ℕ) (t : List ℕ) → after (cond x m n) t ≡ cond x (after m t) (after n t)
after_cond true m n t = refl
after_cond false m n t = refl

-- the width in front says what is left to decide
pub by_width : (a : ℕ) (s : List ℕ) → utf8 (a ∷ s) ≡ after (width (a ∷ s)) (a ∷ s)
unfolding utf8 width
by_width a [] = simp after_cond (alone (utf8_1 a))
by_width a (b ∷ []) =
    simp after_cond
    (chosen (utf8_1 a) _ _ _ (λ h. below_2 a b (omega (arith, lead_1 a h))) (alone (utf8_2 a b)))
by_width a (b ∷ c ∷ []) =
    simp after_cond
    (chosen (utf8_1 a) _ _ _ (λ h. let l = lead_1 a h in simp (below_2 a b (omega arith), below_3 a b c (omega arith)))
    (chosen (utf8_2 a b) _ _ _ (λ h. below_3 a b c (lead_2 a b h)) (alone (utf8_3 a b c))))
by_width a (b ∷ c ∷ d ∷ s) =
    simp after_cond
    (chosen (utf8_1 a) _ _ _ (λ h. let l = lead_1 a h in simp (below_2 a b (omega arith), below_3 a b c (omega arith), below_4 a b c d (omega arith)))
    (chosen (utf8_2 a b) _ _ _ (λ h. let l = lead_2 a b h in simp (below_3 a b c l, below_4 a b c d (omega arith)))
    (chosen (utf8_3 a b c) _ _ _ (λ h. simp (below_4 a b c d (lead_3 a b c h))) (held (utf8_4 a b c d) (utf8 s)))))

-- where no sequence stands in front, the bytes are not well-formed
pub ill_formed_of : (t : List ℕ) → 0 < length t → width t ≡ 0 → utf8 t ≡ false
ill_formed_of [] h e = absurd (omega arith)
ill_formed_of (a ∷ s) h e = by_width a s ∙ ap (λ (n : ℕ). after n (a ∷ s)) e

-- where one stands there, what follows it decides
pub past_width : (t : List ℕ) → 0 < width t → utf8 (drop (width t) t) ≡ utf8 t
unfolding width
past_width [] h = refl
past_width (a ∷ s) h = go (width (a ∷ s)) h ∙ sym (by_width a s)
  where
    go : (n : ℕ) → 0 < n → utf8 (drop n (a ∷ s)) ≡ after n (a ∷ s)
    go zero h = absurd (omega arith)
    go (suc n) h = refl

-- a sequence lies within the bytes
cond_le : (x : Bool) (m n k : ℕ) → m ≤ k → n ≤ k → cond x m n ≤ k
cond_le true m n k h l = h
cond_le false m n k h l = l

pub width_length : (t : List ℕ) → width t ≤ length t
unfolding width
width_length [] = omega arith
width_length (a ∷ []) = cond_le (utf8_1 a) _ _ _ (omega arith) (omega arith)
width_length (a ∷ b ∷ []) = cond_le (utf8_1 a) _ _ _ (omega arith) (cond_le (utf8_2 a b) _ _ _ (omega arith) (omega arith))
width_length (a ∷ b ∷ c ∷ []) =
    cond_le (utf8_1 a) _ _ _ (omega arith) (cond_le (utf8_2 a b) _ _ _ (omega arith) (cond_le (utf8_3 a b c) _ _ _ (omega arith) (omega arith)))
width_length (a ∷ b ∷ c ∷ d ∷ s) =
    cond_le (utf8_1 a) _ _ _ (omega arith)
    (cond_le (utf8_2 a b) _ _ _ (omega arith)
    (cond_le (utf8_3 a b c) _ _ _ (omega arith)
    (cond_le (utf8_4 a b c d) _ _ _ (omega arith) (omega arith))))
