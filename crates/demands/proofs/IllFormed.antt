-- Where a string is ill-formed, by RFC 3629's ABNF: what stands before is well-formed, no longer beginning is, and no character begins there. Assumes
-- nothing.
use Prim.Native.Nat.{ℕ, ◌+◌, ◌≤◌, ◌<◌}
use mathlib.Core.Path.{◌≡◌, refl, sym, ap, ◌∙◌, subst}
use mathlib.Core.Bool.{true, false}
use mathlib.Core.List.{List, ◌++◌, append-nil}
use native.Mathlib.Omega.{arith}
use lib.ListN.{length, take, drop, length-append, length-drop}
use lib.Seq.{take-add, take_at}
use Rattle.reading.specs.Utf8.{utf8, Longest}
use Rattle.reading.proofs.Utf8Longest.{text_joined}
use Rattle.demands.specs.Abnf.{none, more, UTF8Char, UTF8Octets}
use Rattle.demands.proofs.Characters.{test_by_rules, rules_by_test, char_bytes}

no : true ≡ false → ⊥
no e = let z : ◌≡◌ {A = ℕ} 0 1 = cc in omega arith

module _ {x : List ℕ} {n : ℕ} (l : Longest x n) where
  pub well_before : UTF8Octets (take n x)
  well_before = test_by_rules (take n x) l.well

  pub none_longer : (m : ℕ) → n < m → m ≤ length x → UTF8Octets (take m x) → ⊥
  none_longer m h k t = no (sym (rules_by_test t) ∙ l.most m h k)

  pub no_char_there : (u v : List ℕ) → drop n x ≡ u ++ v → UTF8Char u → ⊥
  no_char_there u v e c =
      let t : utf8 u ≡ true = rules_by_test (subst UTF8Octets (append-nil u) (more c none)) in
      let f : take (n + length u) x ≡ take n x ++ u = take-add n (length u) x ∙ ap (λ (y : List ℕ). take n x ++ take (length u) y) e ∙ ap (λ (y : List ℕ). take n x ++ y) (take_at u v (length u) refl) in
      let k = ap length e ∙ length-append u v in
      let b = char_bytes c in
      no (sym (ap utf8 f ∙ text_joined (take n x) u l.well ∙ t) ∙ l.most (n + length u) (omega arith) (omega (arith, k, length-drop n x, l.within)))
