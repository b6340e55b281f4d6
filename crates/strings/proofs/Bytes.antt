-- UTF-8 byte by byte: where each byte fits the three before it, all up to any byte that is no tail can be passed. Assumes nothing.
use Prim.Native.Nat.{ℕ, zero, suc, ◌+◌, ◌-◌, ◌≤◌, ◌<◌}
use mathlib.Core.Path.{◌≡◌, refl, sym, ◌∙◌, ap}
use mathlib.Core.Bool.{Bool, true, false, ◌&&◌}
use mathlib.Core.List.{List}
use native.Mathlib.Omega.{arith}
use native.Mathlib.Numerals.{add-one}
use borrow.Author.Tests.{leb-true, leb-false, le-leb, lt-leb}
use lib.Dec.{leb}
use lib.ListN.{length, drop, get_or}
use Rattle.reading.specs.Utf8.{◌&◌, among, tail, utf8_1, utf8_2, utf8_3, utf8_4}
use Rattle.reading.proofs.Utf8.{pick, width, among_from, among_below, among_above, among_bounds, rows_3, rows_4, above_3}
use Rattle.reading.proofs.Utf8Longest.{ends, sequence_on}
use Rattle.strings.specs.Fits.{begins, awaited, least, most, second, fits, fits_at, all_fit}
use Rattle.utf8.proofs.Places.{width_at}

-- no byte was looked at, and one more
pub none_yet : (s : List ℕ) (at : ℕ) → true ≡ all_fit s at 0
unfolding all_fit
none_yet s at = refl

pub one_more : (s : List ℕ) (at i : ℕ) {x y : Bool} → x ≡ all_fit s at i → y ≡ fits_at s (at + i) → (x && y) ≡ all_fit s at (i + 1)
unfolding all_fit
one_more s at i {x} {y} e f = rw (add-one i, ← e, ← f) (go x)
  where
    go : (x : Bool) → (x && y) ≡ (x & y)
    go true = refl
    go false = refl

no : {A : Type 0} → true ≡ false → A
no e = let z : ◌≡◌ {A = ℕ} 0 1 = cc in absurd (omega arith)

pub both_true : (x y : Bool) → (x & y) ≡ true → (x ≡ true) × (y ≡ true)
both_true true y h = (refl, h)
both_true false y h = no (sym h)

each_fits : (s : List ℕ) (at n : ℕ) → all_fit s at n ≡ true → (i : ℕ) → i < n → fits_at s (at + i) ≡ true
unfolding all_fit
each_fits s at zero h i l = absurd (omega arith)
each_fits s at (suc n) h i l =
    let b = both_true (all_fit s at n) (fits_at s (at + n)) h in
    go (leb n i) refl b.1 (λ k. each_fits s at n b.0 i k)
  where
    go : (x : Bool) → leb n i ≡ x → fits_at s (at + n) ≡ true → (i < n → fits_at s (at + i) ≡ true) → fits_at s (at + i) ≡ true
    go true e b f = let z : n ≡ i = omega (arith, leb-true n i e) in rw z at b
    go false e b f = f (leb-false n i e)

-- ---- ranges
module _ (lo hi a : ℕ) where
  among_in : lo ≤ a → a ≤ hi → among lo hi a ≡ true
  among_in h k = sym (among_from lo hi a h) ∙ le-leb a hi k

split_at : {A : Type 0} (m n : ℕ) → (m ≤ n → A) → (n < m → A) → A
split_at {A} m n f g = go (leb m n) refl
  where
    go : (x : Bool) → leb m n ≡ x → A
    go true e = f (leb-true m n e)
    go false e = g (leb-false m n e)

tail_high : (d : ℕ) → tail d ≡ true → (0x80 ≤ d) × (d ≤ 0xbf)
tail_high d h = among_bounds 0x80 0xbf d h

begins_no_tail : (d : ℕ) → begins d ≡ true → tail d ≡ false
unfolding pick
begins_no_tail d h = go (utf8_1 d) refl h
  where
    go : (x : Bool) → utf8_1 d ≡ x → pick x true (among 0xc2 0xf4 d) ≡ true → tail d ≡ false
    go true e h = let w = among_bounds 0x00 0x7f d e in among_below 0x80 0xbf d (omega arith)
    go false e h = let w = among_bounds 0xc2 0xf4 d h in among_above 0x80 0xbf d (omega arith)

begins_plain : (d : ℕ) → begins d ≡ true → d < 0xc2 → utf8_1 d ≡ true
unfolding pick
begins_plain d h l = go (utf8_1 d) (rw (among_below 0xc2 0xf4 d l) at h)
  where
    go : (x : Bool) → pick x true false ≡ true → x ≡ true
    go true k = refl
    go false k = k

begins_lead : (d : ℕ) → begins d ≡ true → d ≤ 0xf4
unfolding pick
begins_lead d h = go (utf8_1 d) refl h
  where
    go : (x : Bool) → utf8_1 d ≡ x → pick x true (among 0xc2 0xf4 d) ≡ true → d ≤ 0xf4
    go true e h = omega (arith, (among_bounds 0x00 0x7f d e).1)
    go false e h = (among_bounds 0xc2 0xf4 d h).1

at_least : (x y : Bool) → 0x80 ≤ pick x 0xa0 (pick y 0x90 0x80)
unfolding pick
at_least true y = omega arith
at_least false true = omega arith
at_least false false = omega arith

at_most : (x y : Bool) → pick x 0x9f (pick y 0x8f 0xbf) ≤ 0xbf
unfolding pick
at_most true y = omega arith
at_most false true = omega arith
at_most false false = omega arith

second_tail : (c d : ℕ) → second c d ≡ true → tail d ≡ true
second_tail c d h =
    let w = among_bounds (least c) (most c) d h in
    among_in 0x80 0xbf d (omega (arith, at_least (among 0xe0 0xe0 c) (among 0xf0 0xf0 c), w.0)) (omega (arith, at_most (among 0xed 0xed c) (among 0xf4 0xf4 c), w.1))

-- ---- what a byte that fits says of those before it
module _ (a b c d : ℕ) (h : fits a b c d ≡ true) where
  fit_begin : tail d ≡ false → (c < 0xc2) × (b < 0xe0) × (a < 0xf0) × (begins d ≡ true)
  unfolding pick
  fit_begin t = go (leb 0xc2 c) (leb 0xe0 b) (leb 0xf0 a) refl refl refl h
    where
      clash : {A : Type 0} → second c d ≡ true → A
      clash k = no (sym (second_tail c d k) ∙ t)

      go : (x y z : Bool) → leb 0xc2 c ≡ x → leb 0xe0 b ≡ y → leb 0xf0 a ≡ z → pick (pick x true (pick y true z)) (second c d) (begins d) ≡ true
          → (c < 0xc2) × (b < 0xe0) × (a < 0xf0) × (begins d ≡ true)
      go true y z e f g k = clash k
      go false true z e f g k = clash k
      go false false true e f g k = clash k
      go false false false e f g k = (leb-false 0xc2 c e, leb-false 0xe0 b f, leb-false 0xf0 a g, k)

  fit_tail : tail d ≡ true → (awaited a b c ≡ true) × (second c d ≡ true)
  unfolding pick
  fit_tail t = go (awaited a b c) h
    where
      go : (x : Bool) → pick x (second c d) (begins d) ≡ true → (x ≡ true) × (second c d ≡ true)
      go true k = (refl, k)
      go false k = no (sym t ∙ begins_no_tail d k)

-- which of the three awaits it
module _ (a b c : ℕ) (h : awaited a b c ≡ true) where
  by_last : b < 0xe0 → a < 0xf0 → 0xc2 ≤ c
  unfolding pick
  by_last e f = leb-true 0xc2 c (go (leb 0xc2 c) (rw (lt-leb 0xe0 b e, lt-leb 0xf0 a f) at h))
    where
      go : (x : Bool) → pick x true (pick false true false) ≡ true → x ≡ true
      go true k = refl
      go false k = k

  by_middle : c < 0xc2 → a < 0xf0 → 0xe0 ≤ b
  unfolding pick
  by_middle e f = leb-true 0xe0 b (go (leb 0xe0 b) (rw (lt-leb 0xc2 c e, lt-leb 0xf0 a f) at h))
    where
      go : (x : Bool) → pick false true (pick x true false) ≡ true → x ≡ true
      go true k = refl
      go false k = k

  by_first : c < 0xc2 → b < 0xe0 → 0xf0 ≤ a
  unfolding pick
  by_first e f = leb-true 0xf0 a (rw (lt-leb 0xc2 c e, lt-leb 0xe0 b f) at h)

-- ---- rows of the table, by the second byte
three_fit : (x y z : ℕ) → 0xe0 ≤ x → x ≤ 0xef → second x y ≡ true → tail z ≡ true → utf8_3 x y z ≡ true
unfolding pick
three_fit x y z a b h t =
    let p = among_below 0xf0 0xf0 x (omega arith) in
    let q = among_below 0xf4 0xf4 x (omega arith) in
    split_at x 0xe0
    (λ i.
    let e = among_in 0xe0 0xe0 x a i in
    let k : among 0xa0 0xbf y ≡ true = rw (e, among_below 0xed 0xed x (omega arith), q) at h in
    rows_3 x y z ∙ rw (e, k, t))
    (λ i. let e = among_above 0xe0 0xe0 x i in split_at x 0xed (λ j. split_at x 0xec
    (λ m.
    let k : tail y ≡ true = rw (e, p, among_below 0xed 0xed x (omega arith), q) at h in
    rows_3 x y z ∙ rw (e, among_in 0xe1 0xec x (omega arith) m, k, t))
    (λ m.
    let f = among_in 0xed 0xed x (omega arith) j in
    let k : among 0x80 0x9f y ≡ true = rw (e, p, f) at h in
    rows_3 x y z ∙ rw (e, among_above 0xe1 0xec x m, f, k, t)))
    (λ j.
    let f = among_above 0xed 0xed x j in
    let k : tail y ≡ true = rw (e, p, f, q) at h in
    rows_3 x y z ∙ rw (e, among_above 0xe1 0xec x (omega arith), f, among_in 0xee 0xef x (omega arith) b, k, t)))

four_fit : (x y z w : ℕ) → 0xf0 ≤ x → x ≤ 0xf4 → second x y ≡ true → tail z ≡ true → tail w ≡ true → utf8_4 x y z w ≡ true
unfolding pick
four_fit x y z w a b h t u =
    let e = among_above 0xe0 0xe0 x (omega arith) in
    let f = among_above 0xed 0xed x (omega arith) in
    split_at x 0xf0
    (λ i.
    let g = among_in 0xf0 0xf0 x a i in
    let k : among 0x90 0xbf y ≡ true = rw (e, g, f, among_below 0xf4 0xf4 x (omega arith)) at h in
    rows_4 x y z w ∙ rw (g, k, t, u))
    (λ i. let g = among_above 0xf0 0xf0 x i in split_at x 0xf3
    (λ j.
    let k : tail y ≡ true = rw (e, g, f, among_below 0xf4 0xf4 x (omega arith)) at h in
    rows_4 x y z w ∙ rw (g, among_in 0xf1 0xf3 x (omega arith) j, k, t, u))
    (λ j.
    let m = among_in 0xf4 0xf4 x (omega arith) b in
    let k : among 0x80 0x8f y ≡ true = rw (e, g, f, m) at h in
    rows_4 x y z w ∙ rw (g, among_above 0xf1 0xf3 x j, m, k, t, u)))

-- ways through the tests of a width
module _ {A : Type 0} (u v : A) {y : Bool} {r : A} where
  yes : y ≡ true → r ≡ u → r ≡ pick y u v
  unfolding pick
  yes e h = rw e h

  nay : y ≡ false → r ≡ v → r ≡ pick y u v
  unfolding pick
  nay e h = rw e h

-- ---- bytes of which each fits
module _ (s : List ℕ) (low n : ℕ) (all : all_fit s low n ≡ true) (three : 3 ≤ low) (room : low + n ≤ length s) where
  abbrev b : ℕ → ℕ
  b i = get_or s i 0

  fit : (i j k l : ℕ) → l ≡ i + 3 → k ≡ i + 2 → j ≡ i + 1 → low ≤ l → l < low + n → fits (b i) (b j) (b k) (b l) ≡ true
  fit i j k l e f g h m =
      let z : low + (l - low) ≡ l = omega arith in
      let x : fits_at s l ≡ true = rw z at (each_fits s low n all (l - low) (omega arith)) in
      let a : l - 3 ≡ i = omega arith in
      let c : l - 2 ≡ j = omega arith in
      let d : l - 1 ≡ k = omega arith in
      rw (a, c, d) at x

  -- one character at p, by its bytes
  module _ (p : ℕ) (from : low ≤ p) (t : tail (b p) ≡ false) where
    lead : p < low + n → (b (p - 1) < 0xc2) × (b (p - 2) < 0xe0) × (b (p - 3) < 0xf0) × (begins (b p) ≡ true)
    lead l = fit_begin (b (p - 3)) (b (p - 2)) (b (p - 1)) (b p) (fit (p - 3) (p - 2) (p - 1) p (omega arith) (omega arith) (omega arith) from l) t

    -- the bytes behind it that are awaited
    first_tail : p + 1 < low + n → tail (b (p + 1)) ≡ true → (0xc2 ≤ b p) × (second (b p) (b (p + 1)) ≡ true)
    first_tail l u =
        let f = lead (omega arith) in
        let g = fit_tail (b (p - 2)) (b (p - 1)) (b p) (b (p + 1)) (fit (p - 2) (p - 1) p (p + 1) (omega arith) (omega arith) (omega arith) (omega arith) l) u in
        (by_last (b (p - 2)) (b (p - 1)) (b p) g.0 (omega (arith, f.0)) (omega (arith, f.1)), g.1)

    next_tail : p + 2 < low + n → tail (b (p + 1)) ≡ true → tail (b (p + 2)) ≡ true → 0xe0 ≤ b p
    next_tail l u v =
        let f = lead (omega arith) in
        let g = fit_tail (b (p - 1)) (b p) (b (p + 1)) (b (p + 2)) (fit (p - 1) p (p + 1) (p + 2) (omega arith) (omega arith) (omega arith) (omega arith) l) v in
        by_middle (b (p - 1)) (b p) (b (p + 1)) g.0 (omega (arith, (tail_high (b (p + 1)) u).1)) (omega (arith, f.0))

    last_tail : p + 3 < low + n → tail (b (p + 1)) ≡ true → tail (b (p + 2)) ≡ true → tail (b (p + 3)) ≡ true → 0xf0 ≤ b p
    last_tail l u v w =
        let g = fit_tail (b p) (b (p + 1)) (b (p + 2)) (b (p + 3)) (fit p (p + 1) (p + 2) (p + 3) (omega arith) (omega arith) (omega arith) (omega arith) l) w in
        by_first (b p) (b (p + 1)) (b (p + 2)) g.0 (omega (arith, (tail_high (b (p + 2)) v).1)) (omega (arith, (tail_high (b (p + 1)) u).1))

    one : p + 1 < low + n → tail (b (p + 1)) ≡ false → width (drop p s) ≡ 1
    one l u =
        let f = lead (omega arith) in
        let g = fit_begin (b (p - 2)) (b (p - 1)) (b p) (b (p + 1)) (fit (p - 2) (p - 1) p (p + 1) (omega arith) (omega arith) (omega arith) (omega arith) l) u in
        sym (width_at s p (omega arith) (yes _ _ (begins_plain (b p) f.3 g.0) refl))

    two : p + 2 < low + n → tail (b (p + 1)) ≡ true → tail (b (p + 2)) ≡ false → width (drop p s) ≡ 2
    two l u v =
        let w = (first_tail (omega arith) u).0 in
        let g = fit_begin (b (p - 1)) (b p) (b (p + 1)) (b (p + 2)) (fit (p - 1) p (p + 1) (p + 2) (omega arith) (omega arith) (omega arith) (omega arith) l) v in
        let k : utf8_2 (b p) (b (p + 1)) ≡ true = rw (among_in 0xc2 0xdf (b p) w (omega (arith, g.1)), u) in
        sym (width_at s p (omega arith) (nay _ _ (among_above 0x00 0x7f (b p) (omega arith)) (yes _ _ (le-leb 2 (length s - p) (omega arith)) (yes _ _ k refl))))

    three_wide : p + 3 < low + n → tail (b (p + 1)) ≡ true → tail (b (p + 2)) ≡ true → tail (b (p + 3)) ≡ false → width (drop p s) ≡ 3
    three_wide l u v x =
        let f = first_tail (omega arith) u in
        let w = next_tail (omega arith) u v in
        let g = fit_begin (b p) (b (p + 1)) (b (p + 2)) (b (p + 3)) (fit p (p + 1) (p + 2) (p + 3) (omega arith) (omega arith) (omega arith) (omega arith) l) x in
        let k : utf8_2 (b p) (b (p + 1)) ≡ false = rw (among_above 0xc2 0xdf (b p) (omega arith)) in
        sym (width_at s p (omega arith) (nay _ _ (among_above 0x00 0x7f (b p) (omega arith)) (yes _ _ (le-leb 2 (length s - p) (omega arith)) (nay _ _ k
        (yes _ _ (le-leb 3 (length s - p) (omega arith)) (yes _ _ (three_fit (b p) (b (p + 1)) (b (p + 2)) w (omega (arith, g.2)) f.1 v) refl))))))

    four_wide : p + 3 < low + n → tail (b (p + 1)) ≡ true → tail (b (p + 2)) ≡ true → tail (b (p + 3)) ≡ true → width (drop p s) ≡ 4
    four_wide l u v x =
        let f = first_tail (omega arith) u in
        let w = last_tail l u v x in
        let h = begins_lead (b p) (lead (omega arith)).3 in
        let k : utf8_2 (b p) (b (p + 1)) ≡ false = rw (among_above 0xc2 0xdf (b p) (omega arith)) in
        sym (width_at s p (omega arith) (nay _ _ (among_above 0x00 0x7f (b p) (omega arith)) (yes _ _ (le-leb 2 (length s - p) (omega arith)) (nay _ _ k
        (yes _ _ (le-leb 3 (length s - p) (omega arith)) (nay _ _ (above_3 (b p) (b (p + 1)) (b (p + 2)) (omega arith))
        (yes _ _ (le-leb 4 (length s - p) (omega arith)) (yes _ _ (four_fit (b p) (b (p + 1)) (b (p + 2)) (b (p + 3)) w h f.1 v x) refl))))))))

  -- four tails in a row are awaited by nothing
  no_four : (p : ℕ) → low ≤ p + 3 → p + 3 < low + n → tail (b p) ≡ true → tail (b (p + 1)) ≡ true → tail (b (p + 2)) ≡ true → tail (b (p + 3)) ≡ true → {A : Type 0} → A
  no_four p h l t u v w =
      let g = fit_tail (b p) (b (p + 1)) (b (p + 2)) (b (p + 3)) (fit p (p + 1) (p + 2) (p + 3) (omega arith) (omega arith) (omega arith) h l) w in
      let k = by_first (b p) (b (p + 1)) (b (p + 2)) g.0 (omega (arith, (tail_high (b (p + 2)) v).1)) (omega (arith, (tail_high (b (p + 1)) u).1)) in
      absurd (omega (arith, (tail_high (b p) t).1))

  -- past all the characters before a byte that begins one
  module _ (start : tail (b low) ≡ false) where
    step : (r : ℕ) → low ≤ r → r < low + n → tail (b r) ≡ false → ((p : ℕ) → low ≤ p → p < r → tail (b p) ≡ false → ends s p ≡ ends s low) → ends s r ≡ ends s low
    step r from l t before = split_at r low (λ h. let z : r ≡ low = omega arith in ap (λ (i : ℕ). ends s i) z) (λ h. by_one h (tail (b (r - 1))) refl)
      where
        -- a tail is not where all begins
        later : (p : ℕ) → low ≤ p → tail (b p) ≡ true → low < p
        later p h u = split_at p low (λ k. let z : p ≡ low = omega arith in no (sym u ∙ rw z start)) (λ k. k)

        at_end : (w : ℕ) → w ≤ r → tail (b (r - w + w)) ≡ false
        at_end w h = let z : r - w + w ≡ r = omega arith in rw z t

        by_four : low < r - 2 → tail (b (r - 1)) ≡ true → tail (b (r - 2)) ≡ true → tail (b (r - 3)) ≡ true → (x : Bool) → tail (b (r - 4)) ≡ x → ends s r ≡ ends s low
        by_four h u v w false e =
            let k = later (r - 3) (omega arith) w in
            let c : tail (b (r - 4 + 1)) ≡ true = let z : r - 4 + 1 ≡ r - 3 = omega arith in rw z w in
            let d : tail (b (r - 4 + 2)) ≡ true = let z : r - 4 + 2 ≡ r - 2 = omega arith in rw z v in
            let f : tail (b (r - 4 + 3)) ≡ true = let z : r - 4 + 3 ≡ r - 1 = omega arith in rw z u in
            sequence_on s (r - 4) 4 r (four_wide (r - 4) (omega arith) e (omega arith) c d f) (omega arith) (omega arith) ∙ before (r - 4) (omega arith) (omega arith) e
        by_four h u v w true e =
            let k = later (r - 3) (omega arith) w in
            let c : tail (b (r - 4 + 1)) ≡ true = let z : r - 4 + 1 ≡ r - 3 = omega arith in rw z w in
            let d : tail (b (r - 4 + 2)) ≡ true = let z : r - 4 + 2 ≡ r - 2 = omega arith in rw z v in
            let f : tail (b (r - 4 + 3)) ≡ true = let z : r - 4 + 3 ≡ r - 1 = omega arith in rw z u in
            no_four (r - 4) (omega arith) (omega arith) e c d f

        by_three : low < r - 1 → tail (b (r - 1)) ≡ true → tail (b (r - 2)) ≡ true → (x : Bool) → tail (b (r - 3)) ≡ x → ends s r ≡ ends s low
        by_three h u v false e =
            let k = later (r - 2) (omega arith) v in
            let c : tail (b (r - 3 + 1)) ≡ true = let z : r - 3 + 1 ≡ r - 2 = omega arith in rw z v in
            let d : tail (b (r - 3 + 2)) ≡ true = let z : r - 3 + 2 ≡ r - 1 = omega arith in rw z u in
            sequence_on s (r - 3) 3 r (three_wide (r - 3) (omega arith) e (omega arith) c d (at_end 3 (omega arith))) (omega arith) (omega arith) ∙ before (r - 3) (omega arith) (omega arith) e
        by_three h u v true e = by_four (later (r - 2) (omega arith) v) u v e (tail (b (r - 4))) refl

        by_two : low < r → tail (b (r - 1)) ≡ true → (x : Bool) → tail (b (r - 2)) ≡ x → ends s r ≡ ends s low
        by_two h u false e =
            let k = later (r - 1) (omega arith) u in
            let c : tail (b (r - 2 + 1)) ≡ true = let z : r - 2 + 1 ≡ r - 1 = omega arith in rw z u in
            sequence_on s (r - 2) 2 r (two (r - 2) (omega arith) e (omega arith) c (at_end 2 (omega arith))) (omega arith) (omega arith) ∙ before (r - 2) (omega arith) (omega arith) e
        by_two h u true e = by_three (later (r - 1) (omega arith) u) u e (tail (b (r - 3))) refl

        by_one : low < r → (x : Bool) → tail (b (r - 1)) ≡ x → ends s r ≡ ends s low
        by_one h false e = sequence_on s (r - 1) 1 r (one (r - 1) (omega arith) e (omega arith) (at_end 1 (omega arith))) (omega arith) (omega arith) ∙ before (r - 1) (omega arith) (omega arith) e
        by_one h true e = by_two h e (tail (b (r - 2))) refl

    up_to : (k r : ℕ) → r ≤ low + k → low ≤ r → r < low + n → tail (b r) ≡ false → ends s r ≡ ends s low
    up_to zero r m h l t = let z : r ≡ low = omega arith in ap (λ (i : ℕ). ends s i) z
    up_to (suc k) r m h l t = step r h l t (λ p i j u. up_to k p (omega arith) i (omega arith) u)

    pub bytes_passed : (r : ℕ) → low ≤ r → r < low + n → tail (b r) ≡ false → ends s r ≡ ends s low
    bytes_passed r h l t = up_to (r - low) r (omega arith) h l t

pub ruleset looked_at = (none_yet, one_more)
