-- The test for UTF-8 takes exactly what RFC 3629's ABNF takes. Assumes nothing.
use Prim.Native.Nat.{ℕ, ◌≤◌, ◌<◌}
use mathlib.Core.Path.{◌≡◌, refl, ap}
use mathlib.Core.Bool.{Bool, true, false}
use mathlib.Core.List.{List, [], ◌∷◌, ◌++◌}
use native.Mathlib.Omega.{arith}
use borrow.Author.Tests.{le-leb}
use lib.ListN.{length}
use Rattle.reading.specs.Utf8.{◌&◌, ◌or◌, among, tail, utf8_1, utf8_2, utf8_3, utf8_4, utf8}
use Rattle.reading.proofs.Utf8.{among_bounds}
use Rattle.reading.proofs.Faults.{both}
use Rattle.demands.specs.Abnf.{Byte, byte, ◌⨾◌, joined, ◌∣◌, first, second, none, more, UTF8_3, UTF8_4, UTF8Char, UTF8Octets}

-- ---- tests, by what they say

and : {x y : Bool} → x ≡ true → y ≡ true → (x & y) ≡ true
and {x} {y} e f = rw (e, f)

-- one of two
choose : {A : Type 0} (x y : Bool) → (x ≡ true → A) → (y ≡ true → A) → (x or y) ≡ true → A
choose true y f g h = f refl
choose false y f g h = g h

or_left : {x : Bool} (y : Bool) → x ≡ true → (x or y) ≡ true
or_left y e = rw e

or_right : (x : Bool) {y : Bool} → y ≡ true → (x or y) ≡ true
or_right true e = refl
or_right false e = e

in_range : (lo hi b : ℕ) → lo ≤ b → b ≤ hi → among lo hi b ≡ true
unfolding among
in_range lo hi b h k = rw (le-leb lo b h, le-leb b hi k)

a_byte : (lo hi b : ℕ) → among lo hi b ≡ true → Byte lo hi (b ∷ [])
a_byte lo hi b h = let r = among_bounds lo hi b h in byte b r.0 r.1

-- ---- what is by the rules passes the test

two_of : {l h m k : ℕ} {x : List ℕ} → (Byte l h ⨾ Byte m k) x → (a b : ℕ) × (x ≡ a ∷ b ∷ []) × ((among l h a & among m k b) ≡ true)
two_of {l} {h} {m} {k} (joined (byte a p q) (byte b u v)) = (a, b, refl, and (in_range l h a p q) (in_range m k b u v))

three_of : {l h m k n j : ℕ} {x : List ℕ} → (Byte l h ⨾ Byte m k ⨾ Byte n j) x → (a b c : ℕ) × (x ≡ a ∷ b ∷ c ∷ []) × ((among l h a & among m k b & among n j c) ≡ true)
three_of {l} {h} (joined (byte a p q) t) = let r = two_of t in (a, r.0, r.1, ap (λ (y : List ℕ). a ∷ y) r.2, and (in_range l h a p q) r.3)

four_of : {l h m k n j i g : ℕ} {x : List ℕ} → (Byte l h ⨾ Byte m k ⨾ Byte n j ⨾ Byte i g) x
    → (a b c d : ℕ) × (x ≡ a ∷ b ∷ c ∷ d ∷ []) × ((among l h a & among m k b & among n j c & among i g d) ≡ true)
four_of {l} {h} (joined (byte a p q) t) = let r = three_of t in (a, r.0, r.1, r.2, ap (λ (y : List ℕ). a ∷ y) r.3, and (in_range l h a p q) r.4)

-- of so many tests, one that holds
module _ (x y z : Bool) where
  second_holds : y ≡ true → (x or y or z) ≡ true
  second_holds e = or_right x (or_left z e)

  third_holds : z ≡ true → (x or y or z) ≡ true
  third_holds e = or_right x (or_right y e)

  fourth_holds : {w : Bool} → w ≡ true → (x or y or z or w) ≡ true
  fourth_holds e = or_right x (or_right y (or_right z e))

of_rule_3 : {x : List ℕ} → UTF8_3 x → (a b c : ℕ) × (x ≡ a ∷ b ∷ c ∷ []) × (utf8_3 a b c ≡ true)
of_rule_3 (first p) = let r = three_of p in (r.0, r.1, r.2, r.3, or_left _ r.4)
of_rule_3 (second (first p)) =
    let r = three_of p in
    let a = r.0 in
    let b = r.1 in
    let c = r.2 in
    (a, b, c, r.3, second_holds (among 0xe0 0xe0 a & among 0xa0 0xbf b & tail c) _ (among 0xed 0xed a & among 0x80 0x9f b & tail c or among 0xee 0xef a & tail b & tail c) r.4)
of_rule_3 (second (second (first p))) =
    let r = three_of p in
    let a = r.0 in
    let b = r.1 in
    let c = r.2 in
    (a, b, c, r.3, third_holds (among 0xe0 0xe0 a & among 0xa0 0xbf b & tail c) (among 0xe1 0xec a & tail b & tail c) _ (or_left (among 0xee 0xef a & tail b & tail c) r.4))
of_rule_3 (second (second (second p))) =
    let r = three_of p in
    let a = r.0 in
    let b = r.1 in
    let c = r.2 in
    (a, b, c, r.3, fourth_holds (among 0xe0 0xe0 a & among 0xa0 0xbf b & tail c) (among 0xe1 0xec a & tail b & tail c) (among 0xed 0xed a & among 0x80 0x9f b & tail c) r.4)

of_rule_4 : {x : List ℕ} → UTF8_4 x → (a b c d : ℕ) × (x ≡ a ∷ b ∷ c ∷ d ∷ []) × (utf8_4 a b c d ≡ true)
of_rule_4 (first p) = let r = four_of p in (r.0, r.1, r.2, r.3, r.4, or_left _ r.5)
of_rule_4 (second (first p)) =
    let r = four_of p in
    let a = r.0 in
    let b = r.1 in
    let c = r.2 in
    let d = r.3 in
    (a, b, c, d, r.4, second_holds (among 0xf0 0xf0 a & among 0x90 0xbf b & tail c & tail d) _ (among 0xf4 0xf4 a & among 0x80 0x8f b & tail c & tail d) r.5)
of_rule_4 (second (second p)) =
    let r = four_of p in
    let a = r.0 in
    let b = r.1 in
    let c = r.2 in
    let d = r.3 in
    (a, b, c, d, r.4, third_holds (among 0xf0 0xf0 a & among 0x90 0xbf b & tail c & tail d) (among 0xf1 0xf3 a & tail b & tail c & tail d) _ r.5)

pass_1 : (a : ℕ) (y : List ℕ) → utf8_1 a ≡ true → utf8 y ≡ true → utf8 (a ∷ y) ≡ true
unfolding utf8
pass_1 a [] e f = e
pass_1 a (b ∷ []) e f = or_left _ (and e f)
pass_1 a (b ∷ c ∷ []) e f = or_left _ (and e f)
pass_1 a (b ∷ c ∷ d ∷ s) e f = or_left _ (and e f)

pass_2 : (a b : ℕ) (y : List ℕ) → utf8_2 a b ≡ true → utf8 y ≡ true → utf8 (a ∷ b ∷ y) ≡ true
unfolding utf8
pass_2 a b [] e f = or_right (utf8_1 a & utf8 (b ∷ [])) e
pass_2 a b (c ∷ []) e f = second_holds (utf8_1 a & utf8 (b ∷ c ∷ [])) _ (utf8_3 a b c) (and e f)
pass_2 a b (c ∷ d ∷ s) e f = second_holds (utf8_1 a & utf8 (b ∷ c ∷ d ∷ s)) _ (utf8_3 a b c & utf8 (d ∷ s) or utf8_4 a b c d & utf8 s) (and e f)

pass_3 : (a b c : ℕ) (y : List ℕ) → utf8_3 a b c ≡ true → utf8 y ≡ true → utf8 (a ∷ b ∷ c ∷ y) ≡ true
unfolding utf8
pass_3 a b c [] e f = third_holds (utf8_1 a & utf8 (b ∷ c ∷ [])) (utf8_2 a b & utf8 (c ∷ [])) _ e
pass_3 a b c (d ∷ s) e f = third_holds (utf8_1 a & utf8 (b ∷ c ∷ d ∷ s)) (utf8_2 a b & utf8 (c ∷ d ∷ s)) _ (or_left (utf8_4 a b c d & utf8 s) (and e f))

pass_4 : (a b c d : ℕ) (y : List ℕ) → utf8_4 a b c d ≡ true → utf8 y ≡ true → utf8 (a ∷ b ∷ c ∷ d ∷ y) ≡ true
unfolding utf8
pass_4 a b c d y e f = fourth_holds (utf8_1 a & utf8 (b ∷ c ∷ d ∷ y)) (utf8_2 a b & utf8 (c ∷ d ∷ y)) (utf8_3 a b c & utf8 (d ∷ y)) (and e f)

-- a character has a byte
pub char_bytes : {x : List ℕ} → UTF8Char x → 0 < length x
char_bytes (first (byte b h k)) = omega arith
char_bytes (second (first (joined (byte b h k) t))) = omega arith
char_bytes (second (second (first t))) = let r = of_rule_3 t in rw r.3 (omega arith)
char_bytes (second (second (second t))) = let r = of_rule_4 t in rw r.4 (omega arith)

char_passes : {x : List ℕ} (y : List ℕ) → UTF8Char x → utf8 y ≡ true → utf8 (x ++ y) ≡ true
char_passes y (first (byte a p q)) f = pass_1 a y (in_range 0x00 0x7f a p q) f
char_passes y (second (first p)) f = let r = two_of p in rw r.2 (pass_2 r.0 r.1 y r.3 f)
char_passes y (second (second (first p))) f = let r = of_rule_3 p in rw r.3 (pass_3 r.0 r.1 r.2 y r.4 f)
char_passes y (second (second (second p))) f = let r = of_rule_4 p in rw r.4 (pass_4 r.0 r.1 r.2 r.3 y r.5 f)

pub rules_by_test : {s : List ℕ} → UTF8Octets s → utf8 s ≡ true
unfolding utf8
rules_by_test none = refl
rules_by_test (more {y = y} p t) = char_passes y p (rules_by_test t)

-- ---- and what passes it is by the rules

-- two, three and four ranges in a row
two_bytes : (l h m k a b : ℕ) → (among l h a & among m k b) ≡ true → (Byte l h ⨾ Byte m k) (a ∷ b ∷ [])
two_bytes l h m k a b e = let r = both _ _ e in joined (a_byte l h a r.0) (a_byte m k b r.1)

three_bytes : (l h m k n j a b c : ℕ) → (among l h a & among m k b & among n j c) ≡ true → (Byte l h ⨾ Byte m k ⨾ Byte n j) (a ∷ b ∷ c ∷ [])
three_bytes l h m k n j a b c e = let r = both _ _ e in joined (a_byte l h a r.0) (two_bytes m k n j b c r.1)

four_bytes : (l h m k n j p q a b c d : ℕ) → (among l h a & among m k b & among n j c & among p q d) ≡ true → (Byte l h ⨾ Byte m k ⨾ Byte n j ⨾ Byte p q) (a ∷ b ∷ c ∷ d ∷ [])
four_bytes l h m k n j p q a b c d e = let r = both _ _ e in joined (a_byte l h a r.0) (three_bytes m k n j p q b c d r.1)

-- a row of a rule, by its ranges
row : (x y : Bool) {P Q : List ℕ → Type 0} {l : List ℕ} → (x ≡ true → P l) → (y ≡ true → Q l) → (x or y) ≡ true → (P ∣ Q) l
row x y f g = choose x y (λ e. first (f e)) (λ e. second (g e))

rule_3 : (a b c : ℕ) → utf8_3 a b c ≡ true → UTF8_3 (a ∷ b ∷ c ∷ [])
rule_3 a b c =
    row _ _ (three_bytes 0xe0 0xe0 0xa0 0xbf 0x80 0xbf a b c)
    (row _ _ (three_bytes 0xe1 0xec 0x80 0xbf 0x80 0xbf a b c)
    (row _ _ (three_bytes 0xed 0xed 0x80 0x9f 0x80 0xbf a b c) (three_bytes 0xee 0xef 0x80 0xbf 0x80 0xbf a b c)))

rule_4 : (a b c d : ℕ) → utf8_4 a b c d ≡ true → UTF8_4 (a ∷ b ∷ c ∷ d ∷ [])
rule_4 a b c d =
    row _ _ (four_bytes 0xf0 0xf0 0x90 0xbf 0x80 0xbf 0x80 0xbf a b c d)
    (row _ _ (four_bytes 0xf1 0xf3 0x80 0xbf 0x80 0xbf 0x80 0xbf a b c d) (four_bytes 0xf4 0xf4 0x80 0x8f 0x80 0xbf 0x80 0xbf a b c d))

-- a character in front
module _ (s : List ℕ) (a : ℕ) where
  char_1 : utf8_1 a ≡ true → UTF8Octets s → UTF8Octets (a ∷ s)
  char_1 e t = more {x = a ∷ []} (first (a_byte 0x00 0x7f a e)) t

  char_2 : (b : ℕ) → utf8_2 a b ≡ true → UTF8Octets s → UTF8Octets (a ∷ b ∷ s)
  char_2 b e t = more {x = a ∷ b ∷ []} (second (first (two_bytes 0xc2 0xdf 0x80 0xbf a b e))) t

  char_3 : (b c : ℕ) → utf8_3 a b c ≡ true → UTF8Octets s → UTF8Octets (a ∷ b ∷ c ∷ s)
  char_3 b c e t = more {x = a ∷ b ∷ c ∷ []} (second (second (first (rule_3 a b c e)))) t

  char_4 : (b c d : ℕ) → utf8_4 a b c d ≡ true → UTF8Octets s → UTF8Octets (a ∷ b ∷ c ∷ d ∷ s)
  char_4 b c d e t = more {x = a ∷ b ∷ c ∷ d ∷ []} (second (second (second (rule_4 a b c d e)))) t

pub test_by_rules : (s : List ℕ) → utf8 s ≡ true → UTF8Octets s
unfolding utf8
test_by_rules [] h = none
test_by_rules (a ∷ []) h = char_1 [] a h none
test_by_rules (a ∷ b ∷ []) h =
    choose _ _ (λ e. let r = both (utf8_1 a) _ e in char_1 (b ∷ []) a r.0 (test_by_rules (b ∷ []) r.1)) (λ e. char_2 [] a b e none) h
test_by_rules (a ∷ b ∷ c ∷ []) h =
    choose _ _ (λ e. let r = both (utf8_1 a) _ e in char_1 (b ∷ c ∷ []) a r.0 (test_by_rules (b ∷ c ∷ []) r.1))
    (choose _ _ (λ e. let r = both (utf8_2 a b) _ e in char_2 (c ∷ []) a b r.0 (test_by_rules (c ∷ []) r.1)) (λ e. char_3 [] a b c e none)) h
test_by_rules (a ∷ b ∷ c ∷ d ∷ s) h =
    choose _ _ (λ e. let r = both (utf8_1 a) _ e in char_1 (b ∷ c ∷ d ∷ s) a r.0 (test_by_rules (b ∷ c ∷ d ∷ s) r.1))
    (choose _ _ (λ e. let r = both (utf8_2 a b) _ e in char_2 (c ∷ d ∷ s) a b r.0 (test_by_rules (c ∷ d ∷ s) r.1))
    (choose _ _ (λ e. let r = both (utf8_3 a b c) _ e in char_3 (d ∷ s) a b c r.0 (test_by_rules (d ∷ s) r.1))
    (λ e. let r = both (utf8_4 a b c d) _ e in char_4 s a b c d r.0 (test_by_rules s r.1)))) h
