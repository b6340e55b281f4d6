-- A block that is all zero by default. Assumes nothing.
use Rattle.std.proofs.Common.{ℕ, zero, suc, ◌≡◌, ◌<◌, refl, List, [], ◌∷◌, length, slice_index_or, arith}
use Rattle.std.proofs.Math.ListN.{replicate}
use Rattle.std.specs.Array.{AllOfLen}

zeros : (n : ℕ) (w : List ℕ) → length w ≡ n → ((i d : ℕ) → i < n → slice_index_or w i d ≡ 0) → w ≡ replicate n 0
zeros zero [] l h = refl
zeros zero (v ∷ w) l h = absurd (omega arith)
zeros (suc n) [] l h = absurd (omega arith)
zeros (suc n) (v ∷ w) l h =
    let e : v ≡ 0 = h 0 0 (omega arith) in
    let f = zeros n w (omega arith) (λ i d k. h (suc i) d (omega arith)) in
    cc

pub all_zero : {n : ℕ} {w : List ℕ} → AllOfLen (λ x. x ≡ 0) w n → w ≡ replicate n 0
all_zero {n} {w} h = zeros n w h.long h.at
