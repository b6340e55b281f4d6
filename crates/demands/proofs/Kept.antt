-- Demand 1: a refusal leaves every store word as it was, and so does an acceptance the words behind its descriptors. Assumes nothing.
use Prim.Native.Nat.{ℕ, ◌*◌}
use mathlib.Core.Path.{◌≡◌, refl, ◌∙◌}
use mathlib.Core.List.{List}
use native.Mathlib.Omega.{arith}
use lib.ListN.{length, drop, length-append, length-drop}
use lib.Seq.{drop_at}
use Rattle.reading.specs.Answer.{nobody, size, rows, no_header, Answer, refused}
use Rattle.reading.specs.Sizes.{descriptor_words}
use Rattle.reading.proofs.Stored.{rows_length}
use Rattle.demands.specs.Itemised.{Subject, Itemised, too_long, faulty, no_room, whole}
use Rattle.demands.specs.Calls.{Call}
use Rattle.demands.proofs.Itemised.{Reads, itemised}

-- what a call does to the store w, and what it shows on a refusal
pub record Kept (w : List ℕ) (a : Answer) : Type 0 where
  -- a refusal leaves the store, word for word, and shows a header of zeros; it needs no descriptors, but for want of room
  pub refused_store : (a.code ≡ 0 → ⊥) → a.store ≡ w
  pub refused_head : (a.code ≡ 0 → ⊥) → a.head ≡ no_header
  pub refused_needed : (a.code ≡ 0 → ⊥) → (a.code ≡ 9 → ⊥) → a.needed ≡ 0
  -- the words behind the descriptors stay
  pub behind : drop (descriptor_words * a.needed) a.store ≡ drop (descriptor_words * a.needed) w
  pub words : length a.store ≡ length w

refusal_kept : (c i n k : ℕ) (w : List ℕ) → ((c ≡ 9 → ⊥) → k ≡ 0) → Kept w (refused c i n k w)
refusal_kept c i n k w h = record { refused_store = λ z. refl; refused_head = λ z. refl; refused_needed = λ z. h; behind = refl; words = refl }

pub kept : {t : Subject} {f : Call} → Reads t f → (s w : List ℕ) → Kept w (f s w)
kept {t} {f} r s w = go (f s w) (itemised r s w)
  where
    go : (a : Answer) → Itemised t s w a → Kept w a
    go a (too_long h e) = rw e (refusal_kept 1 0 0 0 w (λ z. refl))
    go a (faulty h c i n k e) = rw e (refusal_kept c i n 0 w (λ z. refl))
    go a (no_room h x end n k l e) = rw e (refusal_kept 9 0 n (size (t.ranges x)) w (λ z. absurd (z refl)))
    go a (whole k e) =
        let g = t.ranges k.found in
        let b = k.answers in
        let l = rows_length 0 nobody g in
        record {
          refused_store = λ z. absurd (z b.code);
          refused_head = λ z. absurd (z b.code);
          refused_needed = λ z. absurd (z b.code);
          behind = rw (b.needed, b.store) (drop_at (rows 0 nobody g) (drop (descriptor_words * size g) w) (descriptor_words * size g) l);
          words = rw b.store (length-append (rows 0 nobody g) (drop (descriptor_words * size g) w) ∙ rw (l, length-drop) (omega (arith, k.fits)));
        }
