-- UTF-8 byte by byte: whether a byte fits the three before it. Assumes nothing.
use Rattle.std.specs.Prelude.{ℕ, zero, suc, ◌+◌, ◌-◌, Bool, true, List, leb, get_or}
use Rattle.reading.specs.Utf8.{◌&◌, among, utf8_1}
use Rattle.reading.proofs.Utf8.{pick}

-- a byte that begins a character; whether one is awaited behind these three; and whether d may stand there, behind c
abbrev pub begins : ℕ → Bool
begins d = pick (utf8_1 d) true (among 0xc2 0xf4 d)

abbrev pub awaited : ℕ → ℕ → ℕ → Bool
awaited a b c = pick (leb 0xc2 c) true (pick (leb 0xe0 b) true (leb 0xf0 a))

abbrev pub least : ℕ → ℕ
least c = pick (among 0xe0 0xe0 c) 0xa0 (pick (among 0xf0 0xf0 c) 0x90 0x80)

abbrev pub most : ℕ → ℕ
most c = pick (among 0xed 0xed c) 0x9f (pick (among 0xf4 0xf4 c) 0x8f 0xbf)

abbrev pub second : ℕ → ℕ → Bool
second c d = among (least c) (most c) d

abbrev pub fits : ℕ → ℕ → ℕ → ℕ → Bool
fits a b c d = pick (awaited a b c) (second c d) (begins d)

abbrev pub fits_at : List ℕ → ℕ → Bool
fits_at s j = fits (get_or s (j - 3) 0) (get_or s (j - 2) 0) (get_or s (j - 1) 0) (get_or s j 0)

-- so do the n bytes at a place
unfoldable pub all_fit : List ℕ → ℕ → ℕ → Bool
all_fit s at zero = true
all_fit s at (suc i) = all_fit s at i & fits_at s (at + i)
