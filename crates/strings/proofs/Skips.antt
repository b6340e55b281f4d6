-- Bytes of which each fits those before it: a law for each need of the functions that go by them. Assumes nothing.
use Prim.Native.Nat.{ℕ, ◌+◌, ◌-◌, ◌^◌, ◌≤◌, ◌<◌}
use mathlib.Core.Path.{◌≡◌, refl, sym, ◌∙◌}
use mathlib.Core.Bool.{Bool, true, false}
use mathlib.Core.List.{List}
use native.Mathlib.Omega.{arith}
use borrow.Author.Tests.{leb-true}
use lib.Dec.{leb}
use lib.ListN.{length, drop, get_or}
use mir.Syntax.{w64}
use mir.Val.{Fits}
use Rattle.reading.specs.Utf8.{tail, well_formed_of}
use Rattle.reading.proofs.Utf8.{plain, width}
use Rattle.reading.proofs.Utf8Longest.{ends}
use Rattle.strings.specs.Fits.{all_fit}
use Rattle.strings.proofs.Bytes.{bytes_passed}
use Rattle.utf8.proofs.Places.{plain_room, run_room, run_on, sequence_room, all_passed, sequence_passed, none_there}
use Rattle.strings.specs.Skips.{LastBegins, Skips}

pub same_place : (s : List ℕ) (at : ℕ) → at ≤ length s → Skips s at at
same_place s at h = record { from = omega arith; room = h; same = refl }

-- from one window to the next
module _ (s : List ℕ) (at i n j : ℕ) (g : Skips s at i) (t : tail (get_or s i 0) ≡ false) {x : Bool} (e : x ≡ all_fit s i n) (y : x ≡ true) (k : 3 ≤ i) (l : n ≤ length s - i) (b : LastBegins s i (i + n) j) (m : i < j) where
  pub window_turn : (3 ≤ j) × (tail (get_or s j 0) ≡ false) × Skips s at j
  window_turn =
      let u = b.begin m in
      let z = bytes_passed s i n (sym e ∙ y) k (omega (arith, g.room)) t j (omega arith) b.below u in
      (omega arith, u, record { from = omega (arith, g.from); room = omega (arith, g.room, b.below); same = z ∙ g.same })

-- past a run of UTF8-1, and past what is skipped behind it
pub run_skips : (s : List ℕ) (at : ℕ) {r : ℕ} → at ≤ length s → r ≡ at + plain (drop at s) → Skips s at r
run_skips s at h e = record { from = omega arith; room = run_room s at e h; same = run_on s at e }

pub skips_on : (s : List ℕ) (at i r : ℕ) → Skips s at i → Skips s i r → Skips s at r
skips_on s at i r g h = record { from = omega (arith, g.from, h.from); room = h.room; same = h.same ∙ g.same }

-- past all, where all are UTF8-1
pub all_skips : (s : List ℕ) {x : Bool} → x ≡ leb (length s) (plain s) → x ≡ true → Skips s 0 (length s)
all_skips s e t = run_skips s 0 (omega arith) (omega (arith, plain_room s 0, leb-true (length s) (plain s) (sym e ∙ t)))

-- ---- the walk: a skip, and a character
module _ (s : List ℕ) (at r : ℕ) (g : Skips s at r) where
  pub skip_room : r ≤ length s
  skip_room = g.room

  pub skip_same : ends s at ≡ well_formed_of s → ends s r ≡ well_formed_of s
  skip_same h = g.same ∙ h

  module _ {n : ℕ} (e : n ≡ width (drop r s)) where
    pub char_room : r + n ≤ length s
    char_room = sequence_room s r e g.room

    pub char_fits : length s < 2 ^ 64 → Fits w64 (r + n)
    char_fits h = record { fits = omega (arith, char_room) }

    pub walk_less : at < length s → (n ≡ 0 → ⊥) → length s - (r + n) < length s - at
    walk_less h z = omega (arith, char_room, g.from)

-- what the loops over windows and over characters rest on
pub ruleset windows = (same_place, window_turn)

pub ruleset walking = (all_passed, sequence_passed, none_there, skip_room, skip_same, char_room, char_fits, walk_less)
