-- The lower part and the join by masks, as the Rust crate writes them: `w & (2^k - 1)` and `(u << k) | (l & (2^k - 1))`, where `u << k` drops
-- what passes 32 bits. The upper part, `w >> k`, is `w / 2 ^ k` by definition. Assumes nothing.
use Rattle.std.specs.Prelude.{ℕ, ◌-◌, ◌*◌, ◌%◌, ◌^◌, ◌≤◌, ◌<◌, ◌≡◌}
use Rattle.std.proofs.Common.{sym, mod-lt, pow_pos, arith}
use Rattle.std.specs.Int.Bits.{bit_and, bit_or}
use Rattle.std.proofs.lemmas.Nat.{and_mask, or_shifted, one_shl}
use Rattle.numbers.specs.Split.{lower, join}
use Rattle.numbers.proofs.Lossless.{shifted}

pub lower_masks : (k w : ℕ) → lower k w ≡ bit_and w (2 ^ k - 1)
lower_masks k w = sym (and_mask w k)

pub join_masks : (k u l : ℕ) → k ≤ 32 → join k u l ≡ bit_or (u * 2 ^ k % 2 ^ 32) (bit_and l (2 ^ k - 1))
join_masks k u l fits = rw (shifted k u l fits, and_mask) (sym (or_shifted (u % 2 ^ (32 - k)) k (l % 2 ^ k) (mod-lt l (pow_pos k))))

-- the same as code has it, in which the mask's power is a word too
pub by_mask : (k w : ℕ) → k < 32 → bit_and w (1 * 2 ^ k % 2 ^ 32 - 1) ≡ lower k w
by_mask k w h = rw (one_shl k 32 h) (and_mask w k)

pub by_or : (k u l : ℕ) → k < 32 → bit_or (u * 2 ^ k % 2 ^ 32) (lower k l) ≡ join k u l
by_or k u l h = let e = join_masks k u l (omega arith) in rw and_mask at (sym e)
