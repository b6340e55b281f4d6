-- A 32-bit word as two parts, split above its lower k bits. Assumes nothing.
use Rattle.std.specs.Prelude.{ℕ, ◌+◌, ◌*◌, ◌/◌, ◌%◌, ◌^◌}

-- what stands above the lower k bits of w, and those bits
abbrev pub upper : ℕ → ℕ → ℕ
upper k w = w / 2 ^ k

abbrev pub lower : ℕ → ℕ → ℕ
lower k w = w % 2 ^ k

-- the word with u above its lower k bits and l in them: of each part the bits that have a place
abbrev pub join : ℕ → ℕ → ℕ → ℕ
join k u l = u * 2 ^ k % 2 ^ 32 + l % 2 ^ k
