-- A fixed layout, whatever its widths: where all its bytes are there it is read by one comparison, and where they are not it is refused at the
-- first item that passes the end. Assumes nothing.
use Prim.Native.Nat.{ℕ, ◌+◌, ◌≤◌, ◌<◌}
use mathlib.Core.Path.{◌≡◌, refl, ◌∙◌}
use mathlib.Core.List.{List, [], ◌∷◌, ◌++◌}
use native.Mathlib.Omega.{arith}
use native.Mathlib.Nat.{zero-add, add-zero, add_assoc}
use borrow.Author.Tests.{le-leb, lt-leb}
use lib.ListN.{length, drop}
use lib.Seq.{get_or-drop}
use Rattle.reading.specs.Bytes.{be4, be8}
use Rattle.reading.specs.Script.{Value, number}
use Rattle.reading.specs.Cursor.{Place, got, stop, on, fixed, read_item}
use Rattle.reading.specs.Layout.{Size, u32, u64, size_of, sized, widths, total}
use Rattle.reading.proofs.Fields.{field_out, fields_out}
use Rattle.reading.proofs.Stands.{place}
use Rattle.reading.proofs.Words.{same_got, same_stop}

abbrev pub number_at : Size → List ℕ → (at : ℕ) → ℕ
number_at u32 s at = be4 s at
number_at u64 s at = be8 s at

-- the numbers of a layout, from k bytes after `at` on; k is a numeral in the code, and counts up by computing
abbrev pub numbers_from : List Size → List ℕ → (at k : ℕ) → List Value
numbers_from [] s at k = []
numbers_from (z ∷ l) s at k = number (number_at z s (at + k)) ∷ numbers_from l s at (k + size_of z)

abbrev pub numbers : List Size → List ℕ → (at : ℕ) → List Value
numbers l s at = numbers_from l s at 0

-- what stands behind `at`, by its own bytes
be4_behind : (s : List ℕ) (at k : ℕ) → be4 (drop at s) (0 + k) ≡ be4 s (at + k)
unfolding be4
be4_behind s at k = simp (get_or-drop, zero-add, add_assoc)

number_behind : (z : Size) (s : List ℕ) (at k : ℕ) → number_at z (drop at s) (0 + k) ≡ number_at z s (at + k)
unfolding be8
number_behind u32 s at k = be4_behind s at k
number_behind u64 s at k =
    let e : be4 (drop at s) (0 + k + 4) ≡ be4 s (at + k + 4) = rw (add_assoc 0 k 4, add_assoc at k 4) (be4_behind s at (k + 4)) in
    rw (be4_behind s at k, e)

pub numbers_behind : (l : List Size) (s : List ℕ) (at k : ℕ) → numbers_from l (drop at s) 0 k ≡ numbers_from l s at k
numbers_behind [] s at k = refl
numbers_behind (z ∷ l) s at k = rw (number_behind z s at k, numbers_behind l s at (k + size_of z))

-- no item is without a byte
pub some_bytes : (l : List Size) → length l ≤ total l
some_bytes [] = omega arith
some_bytes (u32 ∷ l) = omega (arith, some_bytes l)
some_bytes (u64 ∷ l) = omega (arith, some_bytes l)

module _ (s : List ℕ) where
  sized_is : (z : Size) (p : Place) → field_out (sized z) s p ≡ fixed (size_of z) (number (number_at z s p.at)) s p
  unfolding field_out read_item
  sized_is u32 p = refl
  sized_is u64 p = refl

  there : (z : Size) (p : Place) → p.at + size_of z ≤ length s → field_out (sized z) s p ≡ got (number (number_at z s p.at)) (on (size_of z) p)
  unfolding fixed
  there z p h = sized_is z p ∙ rw (le-leb _ _ h)

  missing : (z : Size) (p : Place) → length s < p.at + size_of z → field_out (sized z) s p ≡ stop 2 p.at p.steps
  unfolding fixed
  missing z p h = sized_is z p ∙ rw (lt-leb _ _ h)

  all_from : (l : List Size) (at k n : ℕ) → at + k + total l ≤ length s → fields_out (widths l) s (place (at + k) n) ≡ got (numbers_from l s at k) (place (at + k + total l) (n + length l))
  unfolding fields_out
  all_from [] at k n h = same_got [] _ _ _ _ (omega arith) (omega arith)
  all_from (z ∷ l) at k n h =
      rw (there z (place (at + k) n) (omega arith), add_assoc at k (size_of z), all_from l at (k + size_of z) (n + 1) (omega arith))
      (same_got (numbers_from (z ∷ l) s at k) _ _ _ _ (omega arith) (omega arith))

  -- all of it is there
  pub widths_got : (l : List Size) (p : Place) → p.at + total l ≤ length s → fields_out (widths l) s p ≡ got (numbers l s p.at) (place (p.at + total l) (p.steps + length l))
  widths_got l p h = rw add-zero at (all_from l p.at 0 p.steps (omega arith))

  -- the first item is not there
  pub widths_cut : (z : Size) (l : List Size) (p : Place) → length s < p.at + size_of z → fields_out (widths (z ∷ l)) s p ≡ stop 2 p.at p.steps
  unfolding fields_out
  widths_cut z l p h = rw (missing z p h)

  -- the first item is there, and one behind it is not
  pub widths_halt : {c a n : ℕ} (z : Size) (l : List Size) (p : Place) → p.at + size_of z ≤ length s → fields_out (widths l) s (on (size_of z) p) ≡ stop c a n → fields_out (widths (z ∷ l)) s p ≡ stop c a n
  unfolding fields_out
  widths_halt z l p h e = rw (there z p h, e)

  -- the items before it are there, and this one is not
  pub widths_stop : (before : List Size) (z : Size) (rest : List Size) (p : Place) → p.at + total before ≤ length s → length s < p.at + total before + size_of z
      → fields_out (widths (before ++ z ∷ rest)) s p ≡ stop 2 (p.at + total before) (p.steps + length before)
  widths_stop [] z rest p h g = widths_cut z rest p (omega arith) ∙ same_stop 2 _ _ _ _ (omega arith) (omega arith)
  widths_stop (y ∷ before) z rest p h g =
      widths_halt y (before ++ z ∷ rest) p (omega arith) (widths_stop before z rest (on (size_of y) p) (omega arith) (omega arith))
      ∙ same_stop 2 _ _ _ _ (omega arith) (omega arith)
