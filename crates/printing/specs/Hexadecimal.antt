-- Bytes in hexadecimal.
use Rattle.std.specs.Prelude.{ℕ, ◌/◌, ◌%◌, List, [], ◌∷◌}
use Rattle.std.specs.List.{flat_map}
use Rattle.std.specs.Fmt.{digit_glyph}
use mathlib.Core.Bool.{false}

-- the two digits of a byte
abbrev pub hex_digits : ℕ → List ℕ
hex_digits b = digit_glyph false (b / 16) ∷ digit_glyph false (b % 16) ∷ []

-- the digits of bytes one behind another
abbrev pub hex_text : List ℕ → List ℕ
hex_text bytes = flat_map hex_digits bytes
