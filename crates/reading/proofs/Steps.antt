-- What a script finds, and where it ends or is refused, does not hang on the steps before it. Assumes nothing.
use Prim.Native.Nat.{ℕ, zero, suc, ◌+◌}
use mathlib.Core.Path.{◌≡◌, refl, sym, ap, ◌∙◌}
use mathlib.Core.Bool.{Bool, true, false, cond}
use mathlib.Core.List.{List}
use lib.Dec.{leb}
use lib.ListN.{length}
use Rattle.reading.specs.Bytes.{be4}
use Rattle.reading.specs.Utf8.{utf8}
use Rattle.reading.specs.Script.{octet_count, Span, Found, Item, word, tested, long, int, block, opaque, string, Script, give, refuse, here, item, within, repeat}
use Rattle.reading.specs.Cursor.{Place, Out, got, stop, Reader, then, on, fixed, awaited, bytes, read_opaque, read_item, times, held_to, inside, follow}
use Rattle.reading.specs.Sizes.{longest_opaque}
use Rattle.reading.proofs.Items.{never}
use Rattle.reading.proofs.Stands.{place}

-- alike but for the steps
pub data Alike {A : Type 0} : Out A → Out A → Type 0 where
  both_got : {a : A} {p q : Place} → p.at ≡ q.at → Alike (got a p) (got a q)
  both_stop : {c a m n : ℕ} → Alike (stop c a m) (stop c a n)

-- at one position, whatever the steps
abbrev pub Steady : {A : Type 0} → (Place → Out A) → Type 0
Steady r = (p q : Place) → p.at ≡ q.at → Alike (r p) (r q)

pub alike_then : {A B : Type 0} {o u : Out A} (f g : A → Place → Out B) → Alike o u → ((a : A) (p q : Place) → p.at ≡ q.at → Alike (f a p) (g a q)) → Alike (then o f) (then u g)
alike_then f g (both_got {a} {p} {q} e) h = h a p q e
alike_then f g both_stop h = both_stop

pub alike_cond : {A : Type 0} (b : Bool) {x y u v : Out A} → Alike x u → Alike y v → Alike (cond b x y) (cond b u v)
alike_cond true h g = h
alike_cond false h g = g

alike_stop : {A : Type 0} (c a b m n : ℕ) → a ≡ b → Alike {A = A} (stop c a m) (stop c b n)
alike_stop c a b m n e = rw e both_stop

module _ (s : List ℕ) (p q : Place) (e : p.at ≡ q.at) where
  alike_fixed : {A : Type 0} (n : ℕ) (a : A) → Alike (fixed n a s p) (fixed n a s q)
  unfolding fixed
  alike_fixed n a = rw e (alike_cond (leb (q.at + n) (length s)) (both_got refl) both_stop)

  alike_opaque : Alike (read_opaque s p) (read_opaque s q)
  unfolding read_opaque
  alike_opaque =
      rw e (alike_then _ _ first (λ n i j h. rw h (alike_cond (leb n longest_opaque) (alike_cond (leb (q.at + awaited n) (length s)) (both_got refl) both_stop) both_stop)))
    where
      first : Alike (cond (leb (q.at + 4) (length s)) (got (be4 s q.at) (record { at = q.at + 4; steps = (on 4 p).steps })) (stop 2 q.at p.steps)) (fixed 4 (be4 s q.at) s q)
      first = alike_cond (leb (q.at + 4) (length s)) (both_got refl) both_stop

  alike_item : (i : Item) → Alike (read_item i s p) (read_item i s q)
  unfolding read_item
  alike_item word = rw e (alike_cond (leb (q.at + 4) (length s)) (both_got refl) both_stop)
  alike_item (tested ok code) = rw e (alike_cond (leb (q.at + 4) (length s)) (alike_cond (ok (be4 s q.at)) (both_got refl) both_stop) both_stop)
  alike_item long = rw e (alike_cond (leb (q.at + 8) (length s)) (both_got refl) both_stop)
  alike_item int = rw e (alike_cond (leb (q.at + 4) (length s)) (both_got refl) both_stop)
  alike_item (block w) = rw e (alike_cond (leb (q.at + octet_count w) (length s)) (both_got refl) both_stop)
  alike_item opaque = alike_then _ _ alike_opaque (λ x r t h. both_got h)
  alike_item string = alike_then _ _ alike_opaque (λ x r t h. alike_cond (utf8 (bytes s x)) (both_got h) both_stop)

alike_times : (r : Reader Found) (s : List ℕ) → Steady (r s) → (n : ℕ) → Steady (times n r s)
unfolding times
alike_times r s h zero p q e = both_got e
alike_times r s h (suc n) p q e = alike_then _ _ (h p q e) (λ a i j k. alike_then _ _ (alike_times r s h n i j k) (λ b u v w. both_got w))

alike_inside : (r : Reader Found) (x : Span) (s : List ℕ) → Steady (r (held_to x s)) → Steady (inside x r s)
unfolding inside
alike_inside r x s h p q e = alike_then _ _ (h (place x.start p.steps) (place x.start q.steps) refl) (λ a i j k. both_got e)

pub steady : (sc : Script) (s : List ℕ) → Steady (follow sc s)
unfolding follow
steady (give a) s p q e = both_got e
steady (refuse code) s p q e = alike_stop code p.at q.at p.steps q.steps e
steady (here k) s p q e = rw e (steady (k q.at) s (place q.at p.steps) q refl)
steady (item i k) s p q e = alike_then _ _ (alike_item s p q e i) (λ v i j h. steady (k v) s i j h)
steady (within body k) s p q e =
    alike_then _ _ (alike_opaque s p q e) (λ x i j h.
    alike_then _ _ (alike_inside (follow body) x s (steady body (held_to x s)) i j h) (λ a u v w. steady (k x a) s u v w))
steady (repeat n body k) s p q e = alike_then _ _ (alike_times (follow body) s (steady body s) n p q e) (λ a i j h. steady (k a) s i j h)

pub steady_times : (sc : Script) (s : List ℕ) (n : ℕ) → Steady (times n (follow sc) s)
steady_times sc s n = alike_times (follow sc) s (steady sc s) n

-- what was accepted from one place is accepted from another, at the same position
pub unstepped : (sc : Script) (s : List ℕ) (p q : Place) {a : Found} {e : Place} → p.at ≡ q.at → follow sc s p ≡ got a e → (i : Place) × (follow sc s q ≡ got a i) × (i.at ≡ e.at)
unstepped sc s p q {a} {e} h g = go (steady sc s p q h) g
  where
    go : {o u : Out Found} → Alike o u → o ≡ got a e → (i : Place) × (u ≡ got a i) × (i.at ≡ e.at)
    go (both_got {a = b} {p = x} {q = y} k) z =
        let m : b ≡ a = cc in
        let n : x ≡ e = cc in
        (y, ap (λ (c : Found). got c y) m, sym k ∙ ap (λ (t : Place). t.at) n)
    go both_stop z = never z
