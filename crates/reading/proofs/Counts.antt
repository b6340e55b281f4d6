-- How many descriptors a reading needs, frame by frame: what a first pass over the input counts. Assumes nothing.
use Prim.Native.Nat.{ℕ, zero, suc, ◌+◌}
use mathlib.Core.Path.{◌≡◌, refl, sym, ap, ◌∙◌}
use mathlib.Core.List.{List}
use native.Mathlib.Omega.{arith}
use native.Mathlib.Nat.{add-zero, add_assoc}
use Rattle.reading.specs.Script.{Span, Value, number, part, Forest, bare, tree, ◌⊕◌, Found, nothing, ◌⊞◌, word, opaque, Script, give, repeat}
use Rattle.reading.specs.Cursor.{Place, Out, got, stop, Reader, then, read_opaque, read_item, times, held_to, inside, follow}
use Rattle.reading.specs.Layout.{num, Field, fields, last_number, only, ranged, between, framed, pdu}
use Rattle.reading.specs.Answer.{size}
use Rattle.reading.proofs.Items.{never}
use Rattle.reading.proofs.Stands.{place}
use Rattle.reading.proofs.Fields.{fields_out, fields_then, then_then, then_same}

pub size_joined : (f g : Forest) → size (f ⊕ g) ≡ size f + size g
unfolding size
size_joined bare g = sym (native.Mathlib.Nat.zero-add (size g))
size_joined (tree r inner after) g = ap (λ (n : ℕ). 1 + size inner + n) (size_joined after g) ∙ sym (add_assoc (1 + size inner) (size after) (size g))

-- an outcome, with the number of its descriptors on top of k
unfoldable pub counted : ℕ → Out Found → Out ℕ
counted k (got a q) = got (k + size a.ranges) q
counted k (stop c a n) = stop c a n

pub counted_stop : {c a n : ℕ} (k : ℕ) (o : Out Found) → stop c a n ≡ o → stop c a n ≡ counted k o
unfolding counted
counted_stop k o e = rw (← e)

pub counted_none : {o : Out Found} (k : ℕ) (q : Place) → got nothing q ≡ o → got k q ≡ counted k o
unfolding counted size
counted_none k q e = rw (← e) (ap (λ (n : ℕ). got n q) (sym (add-zero k)))

-- ---- one after another

module _ (r : Reader Found) (s : List ℕ) (p : Place) (k : ℕ) where
  pub turn_got : {j : ℕ} {q : Place} (n : ℕ) → got j q ≡ counted k (r s p) → counted k (times (suc n) r s p) ≡ counted j (times n r s q)
  unfolding counted times
  turn_got {j} {q} n e = go (r s p) e
    where
      last : (a : Found) (o : Out Found) → counted k (then o (λ b i. got (a ⊞ b) i)) ≡ counted (k + size a.ranges) o
      last a (got b i) = ap (λ (m : ℕ). got m i) (ap (λ (m : ℕ). k + m) (size_joined a.ranges b.ranges) ∙ sym (add_assoc k (size a.ranges) (size b.ranges)))
      last a (stop c t m) = refl

      go : (o : Out Found) → got j q ≡ counted k o → counted k (then o (λ a i. then (times n r s i) (λ b u. got (a ⊞ b) u))) ≡ counted j (times n r s q)
      go (got a i) h =
          let x : j ≡ k + size a.ranges = cc in
          let y : q ≡ i = cc in
          last a (times n r s i) ∙ rw (x, y)
      go (stop c t m) h = never (sym h)

  pub turn_stop : {c t m : ℕ} (n : ℕ) → stop c t m ≡ counted k (r s p) → stop c t m ≡ counted k (times (suc n) r s p)
  unfolding counted times
  turn_stop {c} {t} {m} n e = go (r s p) e
    where
      go : (o : Out Found) → stop c t m ≡ counted k o → stop c t m ≡ counted k (then o (λ a i. then (times n r s i) (λ b u. got (a ⊞ b) u)))
      go (got a i) h = never h
      go (stop c' t' m') h = h

  pub turns_done : got k p ≡ counted k (times zero r s p)
  unfolding counted times size
  turns_done = ap (λ (n : ℕ). got n p) (sym (add-zero k))

-- so many, and nothing after them
pub repeat_is : (n : ℕ) (body : Script) (s : List ℕ) (p : Place) → follow (repeat n body (λ a. give a)) s p ≡ times n (follow body) s p
unfolding follow
repeat_is n body s p = whole (times n (follow body) s p)
  where
    whole : (o : Out Found) → then o (λ a q. got a q) ≡ o
    whole (got a q) = refl
    whole (stop c a m) = refl

-- ---- a frame

-- on at `end`, with the steps of what was inside
unfoldable pub resumed : ℕ → Out ℕ → Out ℕ
resumed end (got k q) = got k (place end q.steps)
resumed end (stop c a n) = stop c a n

-- an opaque's span
pub span_read : {x : Span} {q : Place} (s : List ℕ) (p : Place) → got (part x) q ≡ read_item opaque s p → read_opaque s p ≡ got x q
unfolding read_item
span_read {x} {q} s p e = go (read_opaque s p) e
  where
    go : (o : Out Span) → got (part x) q ≡ then o (λ y i. got (part y) i) → o ≡ got x q
    go (got y i) h = cc
    go (stop c a n) h = never (sym h)

pub span_cut : {c a n : ℕ} (s : List ℕ) (p : Place) → stop c a n ≡ read_item opaque s p → read_opaque s p ≡ stop c a n
unfolding read_item
span_cut {c} {a} {n} s p e = go (read_opaque s p) e
  where
    go : (o : Out Span) → stop c a n ≡ then o (λ y i. got (part y) i) → o ≡ stop c a n
    go (got y i) h = never h
    go (stop c' a' n') h = cc

-- a format word and an opaque, before anything in it is looked at
pub record Framing : Type 0 where
  pub format : ℕ
  pub span : Span

abbrev pub framing : ℕ → Span → Framing
framing f x = record { format = f; span = x }

unfoldable pub frame_at : Reader Framing
frame_at s p = then (read_item word s p) (λ f q. then (read_opaque s q) (λ x e. got (framing (num f) x) e))

module _ (s : List ℕ) (p : Place) where
  pub framing_cut : {c a n : ℕ} → stop c a n ≡ read_item word s p → stop c a n ≡ frame_at s p
  unfolding frame_at
  framing_cut e = rw (← e)

  module _ {f : ℕ} {q : Place} (e : got (number f) q ≡ read_item word s p) where
    pub framing_short : {c a n : ℕ} → stop c a n ≡ read_item opaque s q → stop c a n ≡ frame_at s p
    unfolding frame_at
    framing_short h = rw (← e, span_cut s q h)

    pub framing_got : {x : Span} {r : Place} → got (part x) r ≡ read_item opaque s q → got (framing f x) r ≡ frame_at s p
    unfolding frame_at
    framing_got h = rw (← e, span_read s q h)

module _ (kind depth : ℕ) (body : ℕ → Script) (s : List ℕ) (p : Place) (k : ℕ) where
  framed_is : follow (framed kind depth body) s p
      ≡ then (frame_at s p) (λ g e. then (inside g.span (follow (body g.format)) s e) (λ a i. got (only (ranged kind g.format depth p.at g.span a.ranges)) i))
  unfolding follow frame_at
  framed_is =
      then_same (read_item word s p) _ _ (λ f q. sym (then_then (read_opaque s q) _ _))
      ∙ sym (then_then (read_item word s p) _ _)

  pub frame_stop : {c a n : ℕ} → stop c a n ≡ frame_at s p → stop c a n ≡ counted k (follow (framed kind depth body) s p)
  unfolding counted
  frame_stop e = sym (rw (framed_is, ← e))

  pub frame_held : {f : ℕ} {x : Span} {r : Place} → got (framing f x) r ≡ frame_at s p
      → counted k (follow (framed kind depth body) s p) ≡ resumed r.at (counted (k + 1) (follow (body f) (held_to x s) (place x.start r.steps)))
  unfolding counted resumed inside size
  frame_held {f} {x} {r} e = rw (framed_is, ← e) (go (follow (body f) (held_to x s) (place x.start r.steps)))
    where
      go : (o : Out Found)
          → counted k (then (then o (λ a i. got a (record { at = r.at; steps = i.steps }))) (λ a i. got (only (ranged kind f depth p.at x a.ranges)) i))
          ≡ resumed r.at (counted (k + 1) o)
      go (got a i) =
          let z : k + (1 + size a.ranges + 0) ≡ k + 1 + size a.ranges = omega arith in
          ap (λ (n : ℕ). got n (place r.at i.steps)) z
      go (stop c a n) = refl

-- a PDU
module _ (depth : ℕ) (body : Script) (s : List ℕ) (p : Place) (k : ℕ) where
  pub pdu_cut : {c a n : ℕ} → stop c a n ≡ read_item word s p → stop c a n ≡ counted k (follow (pdu depth body) s p)
  unfolding follow counted
  pdu_cut e = rw (← e)

  pub pdu_held : {n : ℕ} {q : Place} → got (number n) q ≡ read_item word s p → counted k (follow (pdu depth body) s p) ≡ counted (k + 1) (times n (follow body) s q)
  unfolding follow counted size
  pdu_held {n} {q} e = rw (← e) (go (times n (follow body) s q))
    where
      go : (o : Out Found) → counted k (then o (λ r i. got (only (ranged 4 0 depth p.at (between q.at i.at) r.ranges)) i)) ≡ counted (k + 1) o
      go (got r i) =
          let z : k + (1 + size r.ranges + 0) ≡ k + 1 + size r.ranges = omega arith in
          ap (λ (m : ℕ). got m i) z
      go (stop c a m) = refl

-- ---- what a frame holds, by its fields
module _ (l : List Field) (s : List ℕ) (p : Place) (k : ℕ) where
  pub fields_stop : {c a n : ℕ} (more : List Value → Script) → fields_out l s p ≡ stop c a n → stop c a n ≡ counted k (follow (fields l more) s p)
  unfolding counted
  fields_stop more e = sym (rw (fields_then l more s p, e))

  -- fields alone
  pub flat_got : {vs : List Value} {q : Place} → fields_out l s p ≡ got vs q → got k q ≡ counted k (follow (fields l (λ _. give nothing)) s p)
  unfolding counted follow size
  flat_got {vs} {q} e = sym (rw (fields_then l (λ _. give nothing) s p, e) (ap (λ (n : ℕ). got n q) (add-zero k)))

  -- fields of which the last counts what follows
  pub each_held : {vs : List Value} {q : Place} (body : Script) → fields_out l s p ≡ got vs q
      → counted k (follow (fields l (λ us. repeat (last_number us) body (λ a. give a))) s p) ≡ counted k (times (last_number vs) (follow body) s q)
  each_held {vs} {q} body e = ap (counted k) (fields_then l _ s p ∙ rw e (repeat_is (last_number vs) body s q))
