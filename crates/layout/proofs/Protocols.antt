-- The protocols that `HeaderProtocol` knows are the numbers from 1 to 17. Assumes nothing.
use Rattle.std.proofs.Common.{ℕ, zero, suc, ◌+◌, ◌≡◌, ◌≤◌, ◌<◌, refl, Bool, true, false, List, [], ◌∷◌, arith}
use borrow.Author.Tests.{eqb-false, ne_eqb}
use lib.Dec.{eqb}
use Rattle.reading.specs.Utf8.{◌or◌}
use Rattle.reading.specs.Numbers.{known, header_protocols}

-- k numbers from `lo` on
from : (lo k : ℕ) → List ℕ
from lo zero = []
from lo (suc k) = lo ∷ from (suc lo) k

in_table_from : (k lo n : ℕ) → lo ≤ n → n < lo + k → known (from lo k) n ≡ true
unfolding known from
in_table_from zero lo n a b = absurd (omega arith)
in_table_from (suc k) lo n a b = go (eqb n lo) refl (λ l. in_table_from k (suc lo) n l (omega arith))
  where
    go : (t : Bool) → eqb n lo ≡ t → (suc lo ≤ n → known (from (suc lo) k) n ≡ true) → (t or known (from (suc lo) k) n) ≡ true
    go true e h = refl
    go false e h = h (omega (arith, eqb-false))

off_table_from : (k lo n : ℕ) → (lo ≤ n → lo + k ≤ n) → known (from lo k) n ≡ false
unfolding known from
off_table_from zero lo n a = refl
off_table_from (suc k) lo n a = rw (ne_eqb n lo (λ e. omega (arith, a (omega arith)))) (off_table_from k (suc lo) n (λ l. omega (arith, a (omega arith))))

protocols : (v : ℕ) → known header_protocols v ≡ known (from 1 17) v
unfolding header_protocols from
protocols v = refl

pub in_table : (v : ℕ) → 1 ≤ v → v ≤ 17 → known header_protocols v ≡ true
in_table v a b = rw protocols (in_table_from 17 1 v a (omega arith))

pub off_table : (v : ℕ) → (1 ≤ v → 18 ≤ v) → known header_protocols v ≡ false
off_table v a = rw protocols (off_table_from 17 1 v a)
