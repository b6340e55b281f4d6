-- Demand 3: four bytes for each step, on acceptance and on refusal. By induction on the script, once for every layout. Assumes nothing.
use Prim.Native.Nat.{ℕ, zero, suc, ◌+◌, ◌*◌, ◌≤◌}
use mathlib.Core.Path.{◌≡◌, refl}
use mathlib.Core.Bool.{Bool, true, false, cond}
use mathlib.Core.List.{List}
use native.Mathlib.Omega.{arith}
use borrow.Author.Tests.{leb-true}
use lib.Dec.{leb}
use lib.ListN.{length}
use Rattle.reading.specs.Bytes.{be4}
use Rattle.reading.specs.Utf8.{utf8}
use Rattle.reading.specs.Script.{Width, four, six, eight, sixteen, octet_count, Span, number, part, Found, ◌⊞◌, Item, word, tested, long, int, block, opaque, string, Script, give, refuse, here, item, within, repeat}
use Rattle.reading.specs.Cursor.{Place, Out, got, stop, Reader, then, on, fixed, bytes, ill_at, read_opaque, read_item, times, held_to, inside, follow}
use Rattle.reading.proofs.Items.{held_to_end, opaque_read, OrHere, refused, opaque_here}

-- what an answer from the place p owes to the input s
unfoldable pub Owes : {A : Type 0} → List ℕ → Place → Out A → Type 0
Owes s p (got a q) = (p.at ≤ q.at) × (q.at ≤ length s) × (4 * q.steps + p.at ≤ 4 * p.steps + q.at)
Owes s p (stop c a n) = 4 * n + p.at ≤ 4 * p.steps + length s

module _ (s : List ℕ) (p : Place) where
  owes_then : {A B : Type 0} (o : Out A) (k : A → Place → Out B) → Owes s p o → ((a : A) (q : Place) → q.at ≤ length s → Owes s q (k a q)) → Owes s p (then o k)
  unfolding Owes
  owes_then {B = B} (got a q) k h f = go (k a q) (f a q h.1)
    where
      go : (r : Out B) → Owes s q r → Owes s p r
      go (got b e) g = omega arith
      go (stop c a' n) g = omega arith
  owes_then (stop c a n) k h f = h

  owes_fixed : {A : Type 0} (n : ℕ) (a : A) → 4 ≤ n → p.at ≤ length s → Owes s p (fixed n a s p)
  unfolding Owes fixed
  owes_fixed {A} n a wide h = go (leb (p.at + n) (length s)) refl
    where
      go : (b : Bool) → leb (p.at + n) (length s) ≡ b → Owes s p (cond b (got a (on n p)) (stop 2 p.at p.steps))
      go true t = omega (arith, leb-true)
      go false t = omega arith

  owes_opaque : p.at ≤ length s → Owes s p (read_opaque s p)
  unfolding Owes
  owes_opaque h = go (read_opaque s p) refl (opaque_here s p)
    where
      go : (o : Out Span) → read_opaque s p ≡ o → OrHere p o → Owes s p o
      go (got x q) e i = let r = opaque_read s p x q e in omega (arith, r.fits, r.at, r.steps)
      go (stop c a n) e (refused k) = omega arith

  owes_value : {A B : Type 0} (o : Out A) (f : A → B) → Owes s p o → Owes s p (then o (λ x q. got (f x) q))
  unfolding Owes
  owes_value (got a q) f h = h
  owes_value (stop c a n) f h = h

  owes_string : (o : Out Span) → p.at ≤ length s → Owes s p o → Owes s p (then o (λ x q. cond (utf8 (bytes s x)) (got (part x) q) (stop 7 (ill_at s x) p.steps)))
  unfolding Owes
  owes_string (got x q) i h = go (utf8 (bytes s x))
    where
      go : (b : Bool) → Owes s p (cond b (got (part x) q) (stop 7 (ill_at s x) p.steps))
      go true = h
      go false = omega arith
  owes_string (stop c a n) i h = h

  wide : (w : Width) → 4 ≤ octet_count w
  wide four = omega arith
  wide six = omega arith
  wide eight = omega arith
  wide sixteen = omega arith

  pub owes_item : (i : Item) → p.at ≤ length s → Owes s p (read_item i s p)
  unfolding read_item Owes
  owes_item word h = owes_fixed 4 _ (omega arith) h
  owes_item (tested ok code) h = go (leb (p.at + 4) (length s)) refl (ok (be4 s p.at))
    where
      go : (b : Bool) → leb (p.at + 4) (length s) ≡ b → (y : Bool)
          → Owes s p (cond b (cond y (got (number (be4 s p.at)) (on 4 p)) (stop code p.at p.steps)) (stop 2 p.at p.steps))
      go true t true = omega (arith, leb-true)
      go true t false = omega arith
      go false t true = omega arith
      go false t false = omega arith
  owes_item long h = owes_fixed 8 _ (omega arith) h
  owes_item int h = owes_fixed 4 _ (omega arith) h
  owes_item (block w) h = owes_fixed (octet_count w) _ (wide w) h
  owes_item opaque h = owes_value (read_opaque s p) part (owes_opaque h)
  owes_item string h = owes_string (read_opaque s p) h (owes_opaque h)

-- the opaque's span lies where its bytes were found, and its payload's end is within what the opaque passed
abbrev Holds : List ℕ → Place → Out Span → Type 0
Holds s p (got x q) = (x.start ≡ p.at + 4) × (x.start + x.count ≤ q.at) × (q.at ≤ length s) × (q.steps ≡ p.steps + 1)
Holds s p (stop c a n) = 4 * n + p.at ≤ 4 * p.steps + length s

holds_opaque : (s : List ℕ) (p : Place) → p.at ≤ length s → Holds s p (read_opaque s p)
holds_opaque s p h = go (read_opaque s p) refl (opaque_here s p)
  where
    go : (o : Out Span) → read_opaque s p ≡ o → OrHere p o → Holds s p o
    go (got x q) e i = let r = opaque_read s p x q e in (r.start, omega (arith, r.start, r.at), omega (arith, r.fits, r.at), r.steps)
    go (stop c a n) e (refused k) = omega arith

module _ (s : List ℕ) where
  owes_times : (r : Reader Found) → ((p : Place) → p.at ≤ length s → Owes s p (r s p)) → (n : ℕ) (p : Place) → p.at ≤ length s → Owes s p (times n r s p)
  unfolding times Owes
  owes_times r f zero p h = (omega arith, h, omega arith)
  owes_times r f (suc n) p h = owes_then s p (r s p) _ (f p h) (λ a q i. owes_value s q (times n r s q) (λ b. a ⊞ b) (owes_times r f n q i))

  -- a reading inside an opaque owes to the payload; with the opaque's own word it owes to what the opaque passed
  owes_within : (p : Place) (o : Out Span) → Holds s p o
      → (r : Reader Found) → ((x : Span) (q : Place) → q.at ≤ length (held_to x s) → Owes (held_to x s) q (r (held_to x s) q))
      → (k : Span → Found → Place → Out Found) → ((x : Span) (a : Found) (q : Place) → q.at ≤ length s → Owes s q (k x a q))
      → Owes s p (then o (λ x q. then (inside x r s q) (λ a e. k x a e)))
  unfolding inside Owes
  owes_within p (stop c a n) h r f k g = h
  owes_within p (got x q) h r f k g =
      let e : length (held_to x s) ≡ x.start + x.count = held_to_end x s (omega arith) in
      go (r (held_to x s) (record { at = x.start; steps = q.steps })) (f x (record { at = x.start; steps = q.steps }) (omega arith)) e
    where
      go : (o : Out Found) → Owes (held_to x s) (record { at = x.start; steps = q.steps }) o → length (held_to x s) ≡ x.start + x.count
          → Owes s p (then (then o (λ a e. got a (record { at = q.at; steps = e.steps }))) (λ a e. k x a e))
      go (stop c a n) w e = omega arith
      go (got a i) w e = last (k x a (record { at = q.at; steps = i.steps })) (g x a (record { at = q.at; steps = i.steps }) (omega arith))
        where
          last : (z : Out Found) → Owes s (record { at = q.at; steps = i.steps }) z → Owes s p z
          last (got b j) v = omega arith
          last (stop c a n) v = omega arith

pub owes : (sc : Script) (s : List ℕ) (p : Place) → p.at ≤ length s → Owes s p (follow sc s p)
unfolding follow Owes
owes (give a) s p h = (omega arith, h, omega arith)
owes (refuse code) s p h = omega arith
owes (here k) s p h = owes (k p.at) s p h
owes (item i k) s p h = owes_then s p (read_item i s p) _ (owes_item s p i h) (λ v q j. owes (k v) s q j)
owes (within body k) s p h = owes_within s p (read_opaque s p) (holds_opaque s p h) (follow body) (λ x q j. owes body (held_to x s) q j) (λ x a q. follow (k x a) s q) (λ x a q j. owes (k x a) s q j)
owes (repeat n body k) s p h = owes_then s p (times n (follow body) s p) _ (owes_times s (follow body) (λ q j. owes body s q j) n p h) (λ a q j. owes (k a) s q j)
