-- Demand 2 of the definitions, for one datagram: the cursor accepts exactly when a reading exists, and answers that reading. Assumes nothing.
use Prim.Native.Nat.{ℕ, ◌+◌, ◌≤◌}
use mathlib.Core.Path.{◌≡◌, sym, ap, subst, ◌∙◌}
use mathlib.Core.List.{List, [], ◌++◌}
use native.Mathlib.Omega.{arith}
use native.Mathlib.Nat.{zero-add}
use lib.ListN.{length, take, drop, length-append}
use lib.Seq.{length-take-le}
use Rattle.reading.specs.Script.{Found, Script}
use Rattle.reading.specs.Cursor.{Place, got, follow}
use Rattle.reading.specs.Grammar.{Is}
use Rattle.reading.specs.Layout.{Mode, datagram}
use Rattle.reading.proofs.Stands.{place, held, wider}
use Rattle.reading.proofs.Complete.{complete}
use Rattle.reading.proofs.Sound.{sound}

-- a reading of s: it begins with bytes that are a datagram, and `rest` is left over
pub record Reading (mode : Mode) (s : List ℕ) (f : Found) (bytes : ℕ) (items : ℕ) : Type 0 where
  pub read : List ℕ
  pub rest : List ℕ
  pub joined : s ≡ read ++ rest
  pub long : length read ≡ bytes
  pub is : Is (datagram mode) 0 read f items

pub accepted_is_read : (mode : Mode) (s : List ℕ) (f : Found) (n k : ℕ) → follow (datagram mode) s (place 0 0) ≡ got f (place n k) → Reading mode s f n k
accepted_is_read mode s f n k h =
    let r = sound (datagram mode) s (place 0 0) f (place n k) (omega arith) h in
    record { read = r.read; rest = r.rest; joined = r.stands.there; long = sym (r.at ∙ zero-add _); is = subst (λ (m : ℕ). Is (datagram mode) 0 r.read f m) (sym (r.steps ∙ zero-add _)) r.is }

pub read_is_accepted : (mode : Mode) (s : List ℕ) (f : Found) (n k : ℕ) → Reading mode s f n k → follow (datagram mode) s (place 0 0) ≡ got f (place n k)
read_is_accepted mode s f n k r =
    complete (datagram mode) s r.read r.rest f 0 0 k r.is (record { there = r.joined; fits = rw (r.joined, length-append) (omega arith) })
    ∙ ap (λ (m : ℕ). got f (place m (0 + k))) (zero-add _ ∙ r.long) ∙ ap (λ (m : ℕ). got f (place n m)) (zero-add k)

-- no input has two readings
pub one_reading : (mode : Mode) (s : List ℕ) (f g : Found) (n m k l : ℕ) → Reading mode s f n k → Reading mode s g m l → (f ≡ g) × (n ≡ m) × (k ≡ l)
one_reading mode s f g n m k l a b =
    let e : got f (place n k) ≡ got g (place m l) = sym (read_is_accepted mode s f n k a) ∙ read_is_accepted mode s g m l b in
    let p : place n k ≡ place m l = cc in
    (cc, ap (λ (q : Place). q.at) p, ap (λ (q : Place). q.steps) p)

-- what was read is read alike where the input ends behind it
pub ended : (sc : Script) (s : List ℕ) (p : Place) {a : Found} {q : Place} → p.at ≤ length s → follow sc s p ≡ got a q → follow sc (take q.at s) p ≡ got a q
ended sc s p {a} {q} i e =
    let r = sound sc s p a q i e in
    let c : follow sc (take (p.at + length r.read) s) p ≡ got a (place (p.at + length r.read) (p.steps + r.items)) = complete sc _ r.read [] a p.at p.steps r.items r.is (held p.at r.stands) in
    let z : place (p.at + length r.read) (p.steps + r.items) ≡ q = λ j. record { at = sym r.at j; steps = sym r.steps j } in
    ap (λ (n : ℕ). follow sc (take n s) p) r.at ∙ c ∙ ap (λ (x : Place). got a x) z

-- and where there is more of it
pub longer : (sc : Script) (s : List ℕ) (m : ℕ) (p : Place) {a : Found} {q : Place} → m ≤ length s → p.at ≤ m → follow sc (take m s) p ≡ got a q → follow sc s p ≡ got a q
longer sc s m p {a} {q} i j e =
    let k : p.at ≤ length (take m s) = rw (length-take-le m s i) j in
    let r = sound sc (take m s) p a q k e in
    let c = complete sc s r.read (r.rest ++ drop m s) a p.at p.steps r.items r.is (wider m p.at i j r.stands) in
    let z : place (p.at + length r.read) (p.steps + r.items) ≡ q = λ j. record { at = sym r.at j; steps = sym r.steps j } in
    c ∙ ap (λ (x : Place). got a x) z
