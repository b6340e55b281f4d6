-- What a reader gives so many times over is so many of its meaning, end to end. Assumes nothing.
use Prim.Native.Nat.{ℕ, zero, suc, ◌+◌, ◌≤◌}
use mathlib.Core.Path.{◌≡◌, refl, sym, ap, ◌∙◌, subst}
use mathlib.Core.List.{List, [], ◌++◌, append_assoc}
use native.Mathlib.Omega.{arith}
use native.Mathlib.Nat.{add-zero}
use lib.ListN.{length, drop, length-append}
use lib.Seq.{drop-drop, drop_at}
use Rattle.reading.specs.Script.{Found, nothing}
use Rattle.reading.specs.Cursor.{Place, got, Reader, times}
use Rattle.reading.specs.Grammar.{Meaning, Many}
use Rattle.reading.proofs.Items.{split}
use Rattle.reading.proofs.Stands.{Stands}

-- what a reader gave from p to q is a meaning's: the bytes between, and how many items they are
pub record Read (P : Meaning) (s : List ℕ) (p : Place) (f : Found) (q : Place) : Type 0 where
  pub read : List ℕ
  pub rest : List ℕ
  pub items : ℕ
  pub stands : Stands s p.at read rest
  pub at : q.at ≡ p.at + length read
  pub steps : q.steps ≡ p.steps + items
  pub is : P p.at read f items

-- bytes that stand one after the other stand together
pub joined : {s x y r t : List ℕ} {o e : ℕ} → Stands s o x r → e ≡ o + length x → Stands s e y t → Stands s o (x ++ y) t
joined {s} {x} {y} {r} {t} {o} {e} a at b =
    let m : r ≡ y ++ t = sym (drop_at x r (length x) refl) ∙ ap (λ (l : List ℕ). drop (length x) l) (sym a.there) ∙ drop-drop (length x) o s ∙ ap (λ (j : ℕ). drop j s) (sym at) ∙ b.there in
    record {
      there = a.there ∙ ap (λ (l : List ℕ). x ++ l) m ∙ sym (append_assoc x y t);
      fits = rw length-append (omega (arith, b.fits));
    }

pub none : (s : List ℕ) (o : ℕ) → o ≤ length s → Stands s o [] (drop o s)
none s o h = record { there = refl; fits = omega arith }

abbrev pub Gave : Reader Found → Meaning → Type 0
Gave r P = (s : List ℕ) (p : Place) (f : Found) (q : Place) → p.at ≤ length s → r s p ≡ got f q → Read P s p f q

module _ (P : Meaning) where
  pub here_on : {y : List ℕ} {f : Found} {n a b : ℕ} → a ≡ b → P a y f n → P b y f n
  here_on {y} {f} {n} e h = subst (λ (o : ℕ). P o y f n) e h

pub sound_many : (r : Reader Found) (P : Meaning) → Gave r P → (c : ℕ) → Gave (times c r) (Many c P)
unfolding times Many
sound_many r P each zero s p f q h e =
    record { read = []; rest = drop p.at s; items = 0; stands = none s p.at h; at = ap (λ (t : Place). t.at) (sym (last e)) ∙ sym (add-zero _); steps = ap (λ (t : Place). t.steps) (sym (last e)) ∙ sym (add-zero _); is = (refl, value e, refl) }
  where
    last : got nothing p ≡ got f q → p ≡ q
    last k = cc

    value : got nothing p ≡ got f q → f ≡ nothing
    value k = cc
sound_many r P each (suc c) s p f q h e =
    let w = split (r s p) _ e in
    let v = split (times c r s w.place) _ w.second in
    let a = each s p w.value w.place h w.first in
    let b = sound_many r P each c s w.place v.value v.place (rw a.at a.stands.fits) v.first in
    let k : v.place ≡ q = cc' v.second in
    record {
      read = a.read ++ b.read;
      rest = b.rest;
      items = a.items + b.items;
      stands = joined a.stands a.at b.stands;
      at = ap (λ (t : Place). t.at) (sym k) ∙ b.at ∙ rw (a.at, length-append) (omega arith);
      steps = ap (λ (t : Place). t.steps) (sym k) ∙ b.steps ∙ rw a.steps (omega arith);
      is = (a.read, b.read, w.value, v.value, a.items, b.items, refl, found v.second, refl, a.is, here_on (Many c P) a.at b.is);
    }
  where
    cc' : {g : Found} {t : Place} → got g t ≡ got f q → t ≡ q
    cc' k = cc

    found : {g : Found} {t : Place} → got g t ≡ got f q → f ≡ g
    found k = cc
