-- Numbers in bytes, as RFC 4506 writes them. Assumes nothing.
use Rattle.std.specs.Prelude.{ℕ, ◌+◌, ◌*◌, ◌-◌, ◌%◌, cond, List, leb, ℤ, pos, negsuc, get_or}

-- the big-endian numbers of four and of eight bytes
unfoldable pub be4 : List ℕ → ℕ → ℕ
be4 s at = get_or s at 0 * 16777216 + get_or s (at + 1) 0 * 65536 + get_or s (at + 2) 0 * 256 + get_or s (at + 3) 0

unfoldable pub be8 : List ℕ → ℕ → ℕ
be8 s at = be4 s at * 4294967296 + be4 s (at + 4)

-- a word as a signed number, in two's complement: `negsuc n` is one less than minus n
unfoldable pub signed : ℕ → ℤ
signed w = cond (leb 2147483648 w) (negsuc (4294967295 - w)) (pos w)

-- how many bytes of pad follow n: 0 to 3, to a multiple of four
abbrev pub pads : ℕ → ℕ
pads n = (4 - n % 4) % 4

abbrev pub padded : ℕ → ℕ
padded n = n + pads n
