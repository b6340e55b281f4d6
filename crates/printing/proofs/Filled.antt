-- A buffer into whose rest a read has put new bytes.
use Rattle.std.proofs.Common.{◌≡◌, ℕ, ◌+◌, ◌≤◌, List, ◌++◌, length, take, sym, ap, ◌∙◌, subst, length-take-le}
use Rattle.std.proofs.lemmas.List.{take-append-le}
use Rattle.std.proofs.Math.Seq.{take-append-add}
use borrow.Rule.Slice.PartMut.{put_mid, post_of}

-- the first n of the new bytes follow what stood before them
pub take-filled : (a k n : ℕ) (xs ys : List ℕ) → a ≤ length xs → n ≤ length ys → take a xs ++ take n ys ≡ take (a + n) (put_mid a k xs ys)
take-filled a k n xs ys within fits =
    let rest = ys ++ post_of a k xs in
    let all : take (a + n) (take a xs ++ rest) ≡ take a xs ++ take n rest =
    subst (λ m. take (m + n) (take a xs ++ rest) ≡ take a xs ++ take n rest) (length-take-le a xs within) (take-append-add (take a xs) rest n) in
    sym (all ∙ ap (λ l. take a xs ++ l) (take-append-le n ys (post_of a k xs) fits))
