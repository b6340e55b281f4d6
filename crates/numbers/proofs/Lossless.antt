-- A split loses nothing, at any width k of the lower part: a word is joined again from its parts, no two words have the same parts, and a join
-- has the parts that it was made of. Assumes nothing.
use Rattle.std.specs.Prelude.{ℕ, ◌-◌, ◌*◌, ◌%◌, ◌^◌, ◌≤◌, ◌<◌, ◌≡◌}
use Rattle.std.proofs.Common.{sym, ap, ◌∙◌, add-zero, div-mul-le_self, mod-eq_of_lt, mod-lt, sub-add_cancel, arith, pow_pos}
use Rattle.std.proofs.Math.Nat.{mod-mod, mul-mod_left}
use Rattle.std.proofs.Math.Pow.{split, high, low}
use Rattle.std.proofs.lemmas.Nat.{shl-shr, mod-pow-add}
use Rattle.numbers.specs.Split.{upper, lower, join}

module _ (k : ℕ) where
  -- joined again without loss
  pub join_of_parts : (w : ℕ) → w < 2 ^ 32 → join k (upper k w) (lower k w) ≡ w
  join_of_parts w h =
      let b : upper k w * 2 ^ k < 2 ^ 32 = omega (arith, div-mul-le_self w (2 ^ k)) in
      rw (mod-eq_of_lt b, mod-mod) (split w k)

  -- a word is determined by its parts
  pub same_parts : (v w : ℕ) → upper k v ≡ upper k w → lower k v ≡ lower k w → v ≡ w
  same_parts v w u l = cc (split v k, split w k)

  module _ (u l : ℕ) (fits : k ≤ 32) where
    -- there are 32 - k bits above the lower k
    pub shifted : u * 2 ^ k % 2 ^ 32 ≡ u % 2 ^ (32 - k) * 2 ^ k
    shifted =
        ap (λ (t : ℕ). u * 2 ^ k % 2 ^ t) (sym (sub-add_cancel fits))
        ∙ mod-pow-add (u * 2 ^ k) (32 - k) k
        ∙ rw (shl-shr, mul-mod_left) (add-zero _)

    -- the parts of a join are those it was made of, each cut to its width
    pub upper_of_join : upper k (join k u l) ≡ u % 2 ^ (32 - k)
    upper_of_join = rw shifted (high (u % 2 ^ (32 - k)) k (mod-lt l (pow_pos k)))

    pub lower_of_join : lower k (join k u l) ≡ l % 2 ^ k
    lower_of_join = rw shifted (low (u % 2 ^ (32 - k)) k (mod-lt l (pow_pos k)))

    -- so parts that fit come back
    pub upper_back : u < 2 ^ (32 - k) → upper k (join k u l) ≡ u
    upper_back h = upper_of_join ∙ mod-eq_of_lt h

    pub lower_back : l < 2 ^ k → lower k (join k u l) ≡ l
    lower_back h = lower_of_join ∙ mod-eq_of_lt h
