-- The code of a refusal is one of 2 to 8, for a script whose codes are: so none is 0, and what ends with code 0 was accepted. By induction on the
-- script. Assumes nothing.
use Prim.Native.Nat.{ℕ, zero, suc, ◌+◌, ◌≤◌}
use mathlib.Core.Path.{◌≡◌, refl, subst}
use mathlib.Core.Bool.{Bool, true, false}
use mathlib.Core.List.{List, [], ◌∷◌}
use native.Mathlib.Omega.{arith}
use borrow.Author.Tests.{leb-true}
use lib.Dec.{leb}
use lib.ListN.{length}
use Rattle.reading.specs.Bytes.{be4}
use Rattle.reading.specs.Utf8.{◌&◌, utf8}
use Rattle.reading.specs.Script.{octet_count, Span, Value, Found, Item, word, tested, long, int, block, opaque, string, Script, give, refuse, here, item, within, repeat}
use Rattle.reading.specs.Cursor.{Place, Out, got, stop, Reader, then, bytes, read_item, times, held_to, inside, follow}
use Rattle.reading.specs.Layout.{Field, plain, mac, addr, list, segments}
use Rattle.reading.proofs.Items.{either, Code, OrHere, given, refused, fixed_here, opaque_here}

-- both of two tests
pub both : (a b : Bool) → (a & b) ≡ true → (a ≡ true) × (b ≡ true)
both true b h = (refl, h)
both false b h = let z : ◌≡◌ {A = ℕ} 0 1 = cc in absurd (omega arith)

-- a code that a test may be refused with: 8 is none of these
abbrev pub listed : ℕ → Bool
listed c = leb 2 c & leb c 7

pub test_code : (c : ℕ) → listed c ≡ true → (2 ≤ c) × (c ≤ 7)
test_code c h = let b = both (leb 2 c) (leb c 7) h in (leb-true 2 c b.0, leb-true c 7 b.1)

-- the code of each test of an item, of a field, of a layout: a test that each table passes by computing
abbrev pub fair_item : Item → Bool
fair_item word = true
fair_item (tested ok code) = listed code
fair_item long = true
fair_item int = true
fair_item (block w) = true
fair_item opaque = true
fair_item string = true

abbrev pub fair_field : Field → Bool
fair_field (plain i) = fair_item i
fair_field mac = true
fair_field addr = true
fair_field list = true
fair_field segments = true

abbrev pub fair : List Field → Bool
fair [] = true
fair (f ∷ rest) = fair_field f & fair rest

-- each code of a script is one of 2 to 8
pub data Coded : Script → Type 0 where
  gives : {a : Found} → Coded (give a)
  refuses : {c : ℕ} → Code c → Coded (refuse c)
  stands : {k : ℕ → Script} → ((n : ℕ) → Coded (k n)) → Coded (here k)
  reads : {i : Item} {k : Value → Script} → fair_item i ≡ true → ((v : Value) → Coded (k v)) → Coded (item i k)
  opens : {body : Script} {k : Span → Found → Script} → Coded body → ((x : Span) (a : Found) → Coded (k x a)) → Coded (within body k)
  repeats : {n : ℕ} {body : Script} {k : Found → Script} → Coded body → ((a : Found) → Coded (k a)) → Coded (repeat n body k)

-- an outcome whose code, if it is a refusal, is one of them
pub data Sure {A : Type 0} : Out A → Type 0 where
  fine : {a : A} {p : Place} → Sure (got a p)
  fault : {c a n : ℕ} → Code c → Sure (stop c a n)

pub sure_then : {A B : Type 0} {o : Out A} {k : A → Place → Out B} → Sure o → ((a : A) (q : Place) → Sure (k a q)) → Sure (then o k)
sure_then (fine {a} {p}) h = h a p
sure_then (fault z) h = fault z

sure_here : {A : Type 0} {p : Place} {o : Out A} → OrHere p o → Sure o
sure_here given = fine
sure_here (refused k) = fault k

module _ (s : List ℕ) (p : Place) where
  sure_item : (i : Item) → fair_item i ≡ true → Sure (read_item i s p)
  unfolding read_item
  sure_item word h = sure_here (fixed_here s p 4 _)
  sure_item (tested ok code) h =
      let k = test_code code h in
      either Sure (leb (p.at + 4) (length s)) (either Sure (ok (be4 s p.at)) fine (fault (k.0, omega (arith, k.1)))) (fault (omega arith, omega arith))
  sure_item long h = sure_here (fixed_here s p 8 _)
  sure_item int h = sure_here (fixed_here s p 4 _)
  sure_item (block w) h = sure_here (fixed_here s p (octet_count w) _)
  sure_item opaque h = sure_then (sure_here (opaque_here s p)) (λ x q. fine)
  sure_item string h = sure_then (sure_here (opaque_here s p)) (λ x q. either Sure (utf8 (bytes s x)) fine (fault (omega arith, omega arith)))

sure_times : (r : Reader Found) (s : List ℕ) → ((p : Place) → Sure (r s p)) → (n : ℕ) (p : Place) → Sure (times n r s p)
unfolding times
sure_times r s h zero p = fine
sure_times r s h (suc n) p = sure_then (h p) (λ a q. sure_then (sure_times r s h n q) (λ b e. fine))

pub sure : {sc : Script} → Coded sc → (s : List ℕ) (p : Place) → Sure (follow sc s p)
unfolding follow inside
sure gives s p = fine
sure (refuses z) s p = fault z
sure (stands h) s p = sure (h p.at) s p
sure (reads {i} f h) s p = sure_then (sure_item s p i f) (λ v q. sure (h v) s q)
sure (opens b h) s p = sure_then (sure_here (opaque_here s p)) (λ x q. sure_then (sure_then (sure b (held_to x s) _) (λ a e. fine)) (λ a e. sure (h x a) s e))
sure (repeats {n} {body} b h) s p = sure_then (sure_times (follow body) s (λ q. sure b s q) n p) (λ a q. sure (h a) s q)

pub not_zero : {A : Type 0} {o : Out A} {c a n : ℕ} → Sure o → o ≡ stop c a n → c ≡ 0 → ⊥
not_zero {A} {o} {c} {a} {n} h e z = go (subst Sure e h)
  where
    go : Sure {A = A} (stop c a n) → ⊥
    go (fault y) = omega arith

pub stop_coded : {sc : Script} {c a n : ℕ} → Coded sc → (s : List ℕ) (p : Place) → follow sc s p ≡ stop c a n → c ≡ 0 → ⊥
stop_coded h s p = not_zero (sure h s p)
