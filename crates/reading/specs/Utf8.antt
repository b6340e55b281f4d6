-- RFC 3629, section 4: the well-formed byte sequences, a line for each row of its table. Assumes nothing.
use Rattle.std.specs.Prelude.{ℕ, zero, suc, ◌≤◌, ◌<◌, ◌≡◌, Bool, true, false, cond, List, [], ◌∷◌, length, take, leb}

infixr 30 ◌&◌
abbrev pub ◌&◌ : Bool → Bool → Bool
true & b = b
false & b = false

infixr 20 ◌or◌
abbrev pub ◌or◌ : Bool → Bool → Bool
true or b = true
false or b = b

-- b is a number from lo to hi
unfoldable pub among : ℕ → ℕ → ℕ → Bool
among lo hi b = leb lo b & leb b hi

-- UTF8-tail
abbrev pub tail : ℕ → Bool
tail = among 0x80 0xbf

abbrev pub utf8_1 : ℕ → Bool
utf8_1 = among 0x00 0x7f

abbrev pub utf8_2 : ℕ → ℕ → Bool
utf8_2 a b = among 0xc2 0xdf a & tail b

abbrev pub utf8_3 : ℕ → ℕ → ℕ → Bool
utf8_3 a b c =
    among 0xe0 0xe0 a & among 0xa0 0xbf b & tail c
    or among 0xe1 0xec a & tail b & tail c
    or among 0xed 0xed a & among 0x80 0x9f b & tail c
    or among 0xee 0xef a & tail b & tail c

abbrev pub utf8_4 : ℕ → ℕ → ℕ → ℕ → Bool
utf8_4 a b c d =
    among 0xf0 0xf0 a & among 0x90 0xbf b & tail c & tail d
    or among 0xf1 0xf3 a & tail b & tail c & tail d
    or among 0xf4 0xf4 a & among 0x80 0x8f b & tail c & tail d

-- UTF8-octets = *( UTF8-char )
unfoldable pub utf8 : List ℕ → Bool
utf8 [] = true
utf8 (a ∷ []) = utf8_1 a
utf8 (a ∷ b ∷ []) = utf8_1 a & utf8 (b ∷ []) or utf8_2 a b
utf8 (a ∷ b ∷ c ∷ []) = utf8_1 a & utf8 (b ∷ c ∷ []) or utf8_2 a b & utf8 (c ∷ []) or utf8_3 a b c
utf8 (a ∷ b ∷ c ∷ d ∷ s) =
    utf8_1 a & utf8 (b ∷ c ∷ d ∷ s)
    or utf8_2 a b & utf8 (c ∷ d ∷ s)
    or utf8_3 a b c & utf8 (d ∷ s)
    or utf8_4 a b c d & utf8 s

-- how many bytes the longest beginning has that is well-formed: of those of at most n bytes, and of all
unfoldable pub longest_to : ℕ → List ℕ → ℕ
longest_to zero s = 0
longest_to (suc n) s = cond (utf8 (take (suc n) s)) (suc n) (longest_to n s)

abbrev pub well_formed_of : List ℕ → ℕ
well_formed_of s = longest_to (length s) s

-- n bytes of s are that beginning: they are well-formed, and no more of them are
pub record Longest (s : List ℕ) (n : ℕ) : Type 0 where
  pub within : n ≤ length s
  pub well : utf8 (take n s) ≡ true
  pub most : (m : ℕ) → n < m → m ≤ length s → utf8 (take m s) ≡ false
