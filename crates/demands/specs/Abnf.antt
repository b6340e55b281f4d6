-- RFC 3629, section 4, as its ABNF has it: sequences joined end to end, a line for each rule. Definitions only. Assumes nothing.
use Rattle.std.specs.Prelude.{ℕ, ◌≤◌, List, [], ◌∷◌, ◌++◌}

-- a rule: the byte strings that it takes
abbrev pub Rule : Type 1
Rule = List ℕ → Type 0

-- %xLO-HI: one byte
pub data Byte (lo hi : ℕ) : List ℕ → Type 0 where
  byte : (b : ℕ) → lo ≤ b → b ≤ hi → Byte lo hi (b ∷ [])

-- one rule, and then another
infixr 30 ◌⨾◌
pub data ◌⨾◌ (P Q : List ℕ → Type 0) : List ℕ → Type 0 where
  joined : {x y : List ℕ} → P x → Q y → (P ⨾ Q) (x ++ y)

-- one rule or another
infixr 20 ◌∣◌
pub data ◌∣◌ (P Q : List ℕ → Type 0) : List ℕ → Type 0 where
  first : {x : List ℕ} → P x → (P ∣ Q) x
  second : {x : List ℕ} → Q x → (P ∣ Q) x

-- *( .. ): any number, end to end
pub data Any (P : List ℕ → Type 0) : List ℕ → Type 0 where
  none : Any P []
  more : {x y : List ℕ} → P x → Any P y → Any P (x ++ y)

abbrev pub UTF8Tail : Rule
UTF8Tail = Byte 0x80 0xbf

abbrev pub UTF8_1 : Rule
UTF8_1 = Byte 0x00 0x7f

abbrev pub UTF8_2 : Rule
UTF8_2 = Byte 0xc2 0xdf ⨾ UTF8Tail

abbrev pub UTF8_3 : Rule
UTF8_3 =
    Byte 0xe0 0xe0 ⨾ Byte 0xa0 0xbf ⨾ UTF8Tail
    ∣ Byte 0xe1 0xec ⨾ UTF8Tail ⨾ UTF8Tail
    ∣ Byte 0xed 0xed ⨾ Byte 0x80 0x9f ⨾ UTF8Tail
    ∣ Byte 0xee 0xef ⨾ UTF8Tail ⨾ UTF8Tail

abbrev pub UTF8_4 : Rule
UTF8_4 =
    Byte 0xf0 0xf0 ⨾ Byte 0x90 0xbf ⨾ UTF8Tail ⨾ UTF8Tail
    ∣ Byte 0xf1 0xf3 ⨾ UTF8Tail ⨾ UTF8Tail ⨾ UTF8Tail
    ∣ Byte 0xf4 0xf4 ⨾ Byte 0x80 0x8f ⨾ UTF8Tail ⨾ UTF8Tail

abbrev pub UTF8Char : Rule
UTF8Char = UTF8_1 ∣ UTF8_2 ∣ UTF8_3 ∣ UTF8_4

abbrev pub UTF8Octets : Rule
UTF8Octets = Any UTF8Char
