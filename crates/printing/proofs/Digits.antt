-- The text of bytes in hexadecimal grows by two digits a byte.
use Rattle.std.proofs.Common.{◌≡◌, ℕ, ◌+◌, ◌-◌, ◌^◌, ◌<◌, List, [], ◌++◌, false, length, get_or, take, ap, sym, ◌∙◌}
use Rattle.std.proofs.lemmas.List.{take_more, flat_map_more}
use Rattle.std.proofs.lemmas.Fmt.{hex_byte}
use Rattle.std.specs.Fmt.{digits, padded_integral, format_spec}
use Rattle.printing.specs.Hexadecimal.{hex_digits, hex_text}

-- what `{:02x}` writes of a byte
abbrev pub written : ℕ → List ℕ
written b = padded_integral (format_spec 32 0 4 2 (2 ^ 64 - 1)) false [] (digits 16 false b)

pub hex_text-more : (xs : List ℕ) (i : ℕ) → i < length xs → get_or xs i 0 < 256 → hex_text (take i xs) ++ written (get_or xs i 0) ≡ hex_text (take (i + 1) xs)
hex_text-more xs i inside small =
    ap (λ l. hex_text (take i xs) ++ l) (hex_byte false (get_or xs i 0) small)
    ∙ flat_map_more hex_digits [] (take i xs) (get_or xs i 0)
    ∙ ap hex_text (sym (take_more xs i 0 inside))
