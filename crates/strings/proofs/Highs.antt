-- Bytes tested at once, by the highest bit of each: none is set exactly where all are UTF8-1. Assumes nothing.
use Prim.Native.Nat.{ℕ, zero, suc, ◌+◌, ◌*◌, ◌-◌, ◌≤◌, ◌<◌}
use mathlib.Core.Path.{◌≡◌, refl, sym, ap, ◌∙◌}
use mathlib.Core.Bool.{Bool, true, false, cond, not, ◌&&◌}
use mathlib.Core.List.{List, [], ◌∷◌}
use native.Mathlib.Omega.{arith}
use borrow.Author.Tests.{ltb-false, leb-true, leb-false, le-leb, lt-leb, eqb-true, eqb-false, ne_eqb}
use lib.Bits.{bit_and, and_block, and_comm, and_shifted, and_zero_r}
use lib.Dec.{ltb, eqb, leb, leb-suc-suc, leb-suc-zero}
use lib.ListN.{length, drop, take, get_or, length-drop, length-take}
use Rattle.std.proofs.Common.{Option, Some, None, w32, w64}
use Rattle.std.specs.Int.{from_le_bytes}
use Rattle.std.specs.List.{fold, position_or_len}
use Rattle.reading.specs.Utf8.{among, utf8_1}
use Rattle.reading.proofs.Utf8.{plain, among_from, among_above}
use Rattle.strings.specs.Skips.{last_plain}
use Rattle.strings.proofs.Bytes.{both_true}
use Rattle.utf8.proofs.Places.{run_none, plain_drop, plain_here, plain_past, plain_room}

-- of the n bytes from i on, counted from a place, as one number, the last one highest; and that they are bytes
unfoldable pub number : ℕ → List ℕ → ℕ → ℕ → ℕ
number zero s at i = 0
number (suc n) s at i = number n s at (i + 1) * 256 + get_or s (at + i) 0

unfoldable pub Bytes : ℕ → List ℕ → ℕ → ℕ → Type 0
Bytes zero s at i = 0 ≤ i
Bytes (suc n) s at i = (get_or s (at + i) 0 < 256) × Bytes n s at (i + 1)

-- the highest bits of n bytes
unfoldable pub highs : ℕ → ℕ
highs zero = 0
highs (suc n) = highs n * 256 + 128

-- the highest bit of one
low_byte : (b : ℕ) → b < 128 → bit_and b 128 ≡ 0
low_byte b h = and_comm b 128 ∙ and_shifted 1 7 b h

high_byte : (b : ℕ) → 128 ≤ b → b < 256 → bit_and b 128 ≡ 128
high_byte b h l =
    let e : b ≡ 1 * 128 + (b - 128) = omega arith in
    ap (λ (x : ℕ). bit_and x 128) e ∙ and_block 7 1 1 (b - 128) 0 (omega arith) (omega arith) ∙ ap (λ (x : ℕ). 128 + x) (and_zero_r (b - 128))

-- one byte more
high_step : (n : ℕ) (s : List ℕ) (at i : ℕ) → get_or s (at + i) 0 < 256 → bit_and (number (suc n) s at i) (highs (suc n)) ≡ bit_and (number n s at (i + 1)) (highs n) * 256 + bit_and (get_or s (at + i) 0) 128
unfolding number highs
high_step n s at i h = and_block 8 (number n s at (i + 1)) (highs n) (get_or s (at + i) 0) 128 h (omega arith)

scaled : (a : ℕ) → eqb (a * 256 + 0) 0 ≡ eqb a 0
scaled a = go (eqb a 0) refl
  where
    go : (t : Bool) → eqb a 0 ≡ t → eqb (a * 256 + 0) 0 ≡ t
    go true t = let z : a ≡ 0 = eqb-true a 0 t in rw z
    go false t = ne_eqb (a * 256 + 0) 0 (λ h. eqb-false a 0 t (omega arith))

-- no highest bit is set exactly where the bytes are UTF8-1
module _ (s : List ℕ) (at : ℕ) where
  plain_at : (i : ℕ) → at + i < length s → plain (drop (at + i) s) ≡ cond (leb (get_or s (at + i) 0) 0x7f) (suc (plain (drop (at + i + 1) s))) 0
  plain_at i h = plain_here s (at + i) (among_from 0x00 0x7f (get_or s (at + i) 0) (omega arith)) h

  pub none_high : (n i : ℕ) → Bytes n s at i → at + i + n ≤ length s → eqb (bit_and (number n s at i) (highs n)) 0 ≡ leb n (plain (drop (at + i) s))
  unfolding Bytes number highs
  none_high zero i b h = sym (le-leb 0 (plain (drop (at + i) s)) (omega arith))
  none_high (suc n) i (b, bs) h =
      let m : at + (i + 1) ≡ at + i + 1 = omega arith in
      let again = none_high n (i + 1) bs (omega arith) ∙ ap (λ (j : ℕ). leb n (plain (drop j s))) m in
      ap (λ (v : ℕ). eqb v 0) (high_step n s at i b) ∙ go again (leb (get_or s (at + i) 0) 0x7f) refl
    where
      rest : ℕ
      rest = bit_and (number n s at (i + 1)) (highs n)

      go : eqb rest 0 ≡ leb n (plain (drop (at + i + 1) s)) → (t : Bool) → leb (get_or s (at + i) 0) 0x7f ≡ t
          → eqb (rest * 256 + bit_and (get_or s (at + i) 0) 128) 0 ≡ leb (suc n) (plain (drop (at + i) s))
      go again true t = rw (low_byte (get_or s (at + i) 0) (omega (arith, leb-true (get_or s (at + i) 0) 0x7f t)), plain_at i (omega arith), t, leb-suc-suc) (scaled rest ∙ again)
      go again false t = rw (high_byte (get_or s (at + i) 0) (omega (arith, leb-false (get_or s (at + i) 0) 0x7f t)) b, plain_at i (omega arith), t, leb-suc-zero) (ne_eqb (rest * 256 + 128) 0 (λ z. omega arith))

  -- n bytes as one number, tested at once
  pub all_plain : (n : ℕ) {m v : ℕ} → (v ≡ number n s at 0) × Bytes n s at 0 → m ≡ n → at + m ≤ length s → eqb (bit_and v (highs n)) 0 ≡ leb m (plain (drop at s))
  all_plain n (e, b) z h = let y : at + 0 ≡ at = omega arith in rw (e, z) (none_high n 0 b (omega arith) ∙ ap (λ (j : ℕ). leb n (plain (drop j s))) y)

-- the last k bytes hold the rest, where at most k are left
module _ (k : ℕ) (s : List ℕ) (i : ℕ) where
  pub too_few : length s < k → false ≡ last_plain k s i
  unfolding last_plain
  too_few h = rw (le-leb (length s - k) i (omega arith), lt-leb k (plain (drop (length s - k) s)) (omega (arith, plain_room s (length s - k))))

  pub too_early : i < length s - k → false ≡ last_plain k s i
  unfolding last_plain
  too_early h = rw (lt-leb (length s - k) i h)

  pub last_look : {x : Bool} → length s - k ≤ i → x ≡ leb k (plain (drop (length s - k) s)) → x ≡ last_plain k s i
  unfolding last_plain
  last_look h e = rw (le-leb (length s - k) i h) e

  pub last_rest : {x : Bool} → x ≡ last_plain k s i → x ≡ true → i ≤ length s → length s ≡ i + plain (drop i s)
  unfolding last_plain
  last_rest f t h =
      let (a, b) = both_true (leb (length s - k) i) (leb k (plain (drop (length s - k) s))) (sym f ∙ t) in
      let l = leb-true (length s - k) i a in
      let p = leb-true k (plain (drop (length s - k) s)) b in
      let e : length s - k + (i - (length s - k)) ≡ i = omega arith in
      let q = plain_past s (length s - k) (i - (length s - k)) (omega (arith, plain_room s (length s - k))) in
      let y = ap (λ (j : ℕ). plain (drop j s)) e in
      omega (arith, plain_room s (length s - k), q, y)

-- the first k and the last k hold all, where there are at most twice as many
module _ (s : List ℕ) (k : ℕ) (h : k ≤ length s) (l : length s ≤ k + k) {x : Bool} (e : x ≡ leb k (plain (drop 0 s))) where
  pub ends_plain : {y : Bool} → x ≡ true → y ≡ leb k (plain (drop (length s - k) s)) → y ≡ leb (length s) (plain s)
  ends_plain {y} t f = go y f
    where
      reach : plain s ≡ length s - k + plain (drop (length s - k) s)
      reach = plain_drop (length s - k) s (omega (arith, leb-true k (plain (drop 0 s)) (sym e ∙ t)))

      go : (y : Bool) → y ≡ leb k (plain (drop (length s - k) s)) → y ≡ leb (length s) (plain s)
      go true f = sym (le-leb (length s) (plain s) (omega (arith, reach, leb-true k (plain (drop (length s - k) s)) (sym f))))
      go false f = sym (lt-leb (length s) (plain s) (omega (arith, reach, leb-false k (plain (drop (length s - k) s)) (sym f))))

-- a block as a slice, and as bytes at a place
plain_take : (n : ℕ) (t : List ℕ) → n ≤ length t → leb n (plain (take n t)) ≡ leb n (plain t)
unfolding plain
plain_take zero t h = simp (le-leb 0 (plain t) (omega arith), le-leb 0 (plain (take 0 t)) (omega arith))
plain_take (suc n) [] h = absurd (omega arith)
plain_take (suc n) (a ∷ t) h = go (utf8_1 a) (plain_take n t (omega arith))
  where
    go : (x : Bool) → leb n (plain (take n t)) ≡ leb n (plain t) → leb (suc n) (cond x (suc (plain (take n t))) 0) ≡ leb (suc n) (cond x (suc (plain t)) 0)
    go true e = simp leb-suc-suc e
    go false e = refl

pub block_plain : (s : List ℕ) (at n : ℕ) {k m : ℕ} {b : List ℕ} {r : Bool} → at + n ≤ length s → k ≡ n → r ≡ leb m (plain b) → b ≡ take k (drop at s) → length b ≡ m → r ≡ leb n (plain (drop at s))
block_plain s at n {k} {m} h z e f l =
    let y : m ≡ n = omega (arith, l, ap length f, length-take k (drop at s), length-drop at s) in
    e ∙ rw (y, f, z) (plain_take n (drop at s) (omega (arith, length-drop at s)))

-- bytes one by one
pub fold_plain : (x : Bool) (t : List ℕ) → fold (λ all byte. all && leb byte 0x7f) x t ≡ (x && leb (length t) (plain t))
unfolding plain among
fold_plain x [] = rw (le-leb 0 0 (omega arith)) (go x)
  where
    go : (x : Bool) → x ≡ (x && true)
    go true = refl
    go false = refl
fold_plain x (a ∷ t) = fold_plain (x && leb a 0x7f) t ∙ go x (leb a 0x7f) refl
  where
    go : (x y : Bool) → leb a 0x7f ≡ y → ((x && y) && leb (length t) (plain t)) ≡ (x && leb (suc (length t)) (cond (utf8_1 a) (suc (plain t)) 0))
    go true true e = rw (le-leb 0 a (omega arith), e) (sym (leb-suc-suc _ _))
    go true false e = rw (le-leb 0 a (omega arith), e) (sym (leb-suc-zero _))
    go false y e = refl

first_high : (t : List ℕ) → position_or_len (λ byte. not (leb byte 0x7f)) t ≡ plain t
unfolding plain among
first_high [] = refl
first_high (a ∷ t) = go (leb a 0x7f) refl (first_high t)
  where
    go : (y : Bool) → leb a 0x7f ≡ y → position_or_len (λ byte. not (leb byte 0x7f)) t ≡ plain t
        → cond (not (not y)) (1 + position_or_len (λ byte. not (leb byte 0x7f)) t) 0 ≡ cond (utf8_1 a) (suc (plain t)) 0
    go true e f = rw (le-leb 0 a (omega arith), e) (omega arith)
    go false e f = rw (le-leb 0 a (omega arith), e)

module _ (t : List ℕ) {o : Option ℕ} (e : o ≡ cond (ltb (position_or_len (λ byte. not (leb byte 0x7f)) t) (length t)) (Some (position_or_len (λ byte. not (leb byte 0x7f)) t)) None) where
  pub first_there : {k : ℕ} → o ≡ Some k → k ≡ plain t
  first_there {k} f = go (ltb (plain t) (length t)) (rw (first_high t) at (sym f ∙ e))
    where
      go : (y : Bool) → Some k ≡ cond y (Some (plain t)) None → k ≡ plain t
      go true f = cc
      go false f = cc

  pub first_nowhere : o ≡ None → length t ≡ plain t
  first_nowhere f = go (ltb (plain t) (length t)) refl (rw (first_high t) at (sym f ∙ e))
    where
      go : (y : Bool) → ltb (plain t) (length t) ≡ y → None ≡ cond y (Some (plain t)) None → length t ≡ plain t
      go true e f = cc
      go false e f = omega (arith, ltb-false (plain t) (length t) e, plain_room t 0)

-- eight bytes and four, read as one number
pub eight_high : (bs : List ℕ) {v : ℕ} → v ≡ from_le_bytes w64 bs → length bs ≡ 8 → ((i : ℕ) → get_or bs i 0 < 256) → eqb (bit_and v 0x8080808080808080) 0 ≡ leb 8 (plain bs)
unfolding number Bytes highs
eight_high bs e l h = all_plain bs 0 8 (omega arith, (h 0, (h 1, (h 2, (h 3, (h 4, (h 5, (h 6, (h 7, omega arith))))))))) refl (omega arith)

pub four_high : (bs : List ℕ) {v : ℕ} → v ≡ from_le_bytes w32 bs → length bs ≡ 4 → ((i : ℕ) → get_or bs i 0 < 256) → eqb (bit_and v 0x80808080) 0 ≡ leb 4 (plain bs)
unfolding number Bytes highs
four_high bs e l h = all_plain bs 0 4 (omega arith, (h 0, (h 1, (h 2, (h 3, omega arith))))) refl (omega arith)

-- where a byte stands that is no UTF8-1, there is no run
pub run_over : (s : List ℕ) (at : ℕ) {x : Bool} → x ≡ ltb (get_or s at 0) 128 → x ≡ false → at < length s → at ≡ at + plain (drop at s)
run_over s at e t l =
    let h = ltb-false (get_or s at 0) 128 (sym e ∙ t) in
    run_none s at refl (among_above 0x00 0x7f (get_or s at 0) (omega arith)) l

pub ruleset ends = (too_few, too_early, last_look)
