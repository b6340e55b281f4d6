-- Whole blocks of n bytes. Assumes nothing.
use Prim.Native.Nat.{ℕ, ◌+◌, ◌*◌, ◌/◌, ◌≤◌, ◌<◌}
use mathlib.Core.Path.{◌≡◌, ap, ◌∙◌}
use native.Mathlib.Omega.{arith}
use mathlib.Core.List.{List}
use native.Mathlib.Nat.{add-div_right, div-eq_of_lt, div-mul-le_self, add-mul, one-mul}
use lib.ListN.{length, drop}
use Rattle.reading.proofs.Utf8.{plain}
use Rattle.utf8.proofs.Places.{plain_room, plain_on}

-- one block more
pub blocks_on : (n p q : ℕ) → 0 < n → p ≡ n + q → p / n * n ≡ n + q / n * n
blocks_on n p q h e =
    let a : p ≡ q + n = omega arith in
    let b : p / n ≡ q / n + 1 = ap (λ (x : ℕ). x / n) a ∙ add-div_right q h in
    let c : (q / n + 1) * n ≡ q / n * n + n = add-mul (q / n) 1 n ∙ ap (λ (x : ℕ). q / n * n + x) (one-mul n) in
    ap (λ (x : ℕ). x * n) b ∙ c ∙ omega arith

-- no whole block
pub blocks_none : (n p : ℕ) → p < n → p / n * n ≡ 0
blocks_none n p h = ap (λ (x : ℕ). x * n) (div-eq_of_lt h) ∙ omega arith

-- past the whole blocks of n UTF8-1 at a place
module _ (s : List ℕ) (at n : ℕ) {x : ℕ} (e : x ≡ at + plain (drop at s) / n * n) where
  pub blocks_inside : at ≤ length s → x ≤ length s
  blocks_inside h = omega (arith, plain_room s at, div-mul-le_self (plain (drop at s)) n)

  pub blocks_then : {r : ℕ} → r ≡ x + plain (drop x s) → r ≡ at + plain (drop at s)
  blocks_then f = plain_on s at (plain (drop at s) / n * n) f e (div-mul-le_self (plain (drop at s)) n)

pub ruleset blocks = (blocks_inside, blocks_then)
