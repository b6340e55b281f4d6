-- Demand 2, the other half: what the cursor gives is a reading by the grammar. By induction on the script. Assumes nothing.
use Prim.Native.Nat.{ℕ, ◌+◌, ◌≤◌}
use mathlib.Core.Path.{◌≡◌, refl, sym, ap, ◌∙◌, subst}
use mathlib.Core.List.{List, [], ◌++◌}
use native.Mathlib.Omega.{arith}
use native.Mathlib.Nat.{add-zero, add_assoc}
use lib.ListN.{length, take, drop, length-append}
use Rattle.reading.specs.Bytes.{padded}
use Rattle.reading.specs.Script.{Span, Value, Found, Item, Script, give, refuse, here, item, within, repeat}
use Rattle.reading.specs.Cursor.{Place, Out, got, stop, Reader, then, read_opaque, read_item, times, held_to, inside, follow}
use Rattle.reading.specs.Grammar.{Is}
use Rattle.reading.proofs.Items.{never, split, held_to_end, OpaqueRead, opaque_read}
use Rattle.reading.proofs.Stands.{place, drop_take}
use Rattle.reading.proofs.SoundItems.{ItemRead, held_length, sound_item, cut, cut_length, is_opaque}
use Rattle.reading.proofs.SoundRows.{Read, joined, none, Gave, sound_many, here_on}

-- an item's bytes, standing
item_bytes : (i : Item) (s : List ℕ) (p : Place) (v : Value) (q : Place) → (r : ItemRead i s p v q) → q.at ≡ p.at + length (take r.size (drop p.at s))
item_bytes i s p v q r = r.at ∙ ap (λ (n : ℕ). p.at + n) (sym (cut_length s p.at r.size r.fits))

follow_repeat : (c : ℕ) (body : Script) (j : Found → Script) (s : List ℕ) (p : Place) → follow (repeat c body j) s p ≡ then (times c (follow body) s p) (λ a q. follow (j a) s q)
unfolding follow
follow_repeat c body j s p = refl

follow_within : (body : Script) (j : Span → Found → Script) (s : List ℕ) (p : Place)
    → follow (within body j) s p ≡ then (read_opaque s p) (λ x q. then (inside x (follow body) s q) (λ a e. follow (j x a) s e))
unfolding follow
follow_within body j s p = refl

pub record InsideRead (r : Reader Found) (s : List ℕ) (x : Span) (p : Place) (a : Found) (q : Place) : Type 0 where
  pub last : Place
  pub gave : r (held_to x s) (place x.start p.steps) ≡ got a last
  pub at : q.at ≡ p.at
  pub steps : q.steps ≡ last.steps

inside_read : (r : Reader Found) (s : List ℕ) (x : Span) (p : Place) (a : Found) (q : Place) → inside x r s p ≡ got a q → InsideRead r s x p a q
unfolding inside
inside_read r s x p a q h = go (r (held_to x s) (place x.start p.steps)) refl h
  where
    go : (o : Out Found) → r (held_to x s) (place x.start p.steps) ≡ o
        → then o (λ b e. got b (record { at = p.at; steps = e.steps })) ≡ got a q → InsideRead r s x p a q
    go (got b e) k m = let v : b ≡ a = cc in record { last = e; gave = k ∙ ap (λ (t : Found). got t e) v; at = cc; steps = cc }
    go (stop c t n) k m = never m

lengths : (o : ℕ) (x y : List ℕ) → o + length x + length y ≡ o + length (x ++ y)
lengths o x y = rw length-append (omega arith)

sums : (k a b : ℕ) → k + 1 + a + b ≡ k + (1 + a + b)
sums k a b = omega arith

module _ (s : List ℕ) (p : Place) (x : Span) (e : Place) (r : OpaqueRead s p x e) where
  span_fits : x.start + x.count ≤ length s
  span_fits = rw r.start (omega (arith, r.fits))

  inner_fits : x.start ≤ length (held_to x s)
  inner_fits = rw (held_to_end x s span_fits) (omega arith)

  outer_fits : (q : Place) → q.at ≡ e.at → q.at ≤ length s
  outer_fits q at = rw (at ∙ r.at) r.fits

  -- the span is the one that the grammar names
  span_is : x ≡ record { start = p.at + 4; count = length (take x.count (drop (p.at + 4) s)) }
  span_is = rw (held_length s p.at x.count r.fits r.count r.small) (ap (λ (t : ℕ). record { start = t; count = x.count }) r.start)

within_read : (body : Script) (j : Span → Found → Script) (s : List ℕ) (p : Place) (f : Found) (q : Place) (x : Span) (e : Place) (r : OpaqueRead s p x e)
    (a : Found) (d : Place) (i : InsideRead (follow body) s x e a d)
    → Read (Is body) (held_to x s) (place x.start e.steps) a i.last
    → Read (Is (j x a)) s d f q → Read (Is (within body j)) s p f q
unfolding Is
within_read body j s p f q x e r a d i m b =
    let u = take (4 + padded x.count) (drop p.at s) in
    let at : d.at ≡ p.at + length u = i.at ∙ r.at ∙ ap (λ (t : ℕ). p.at + t) (sym (cut_length s p.at (4 + padded x.count) r.fits)) in
    record {
      read = u ++ b.read;
      rest = b.rest;
      items = 1 + m.items + b.items;
      stands = joined (cut s p.at (4 + padded x.count) r.fits) at b.stands;
      at = b.at ∙ ap (λ (t : ℕ). t + length b.read) at ∙ lengths p.at u b.read;
      steps = b.steps ∙ ap (λ (t : ℕ). t + b.items) (i.steps ∙ m.steps ∙ ap (λ (t : ℕ). t + m.items) r.steps) ∙ sums p.steps m.items b.items;
      is = (
        u,
        b.read,
        take x.count (drop (p.at + 4) s),
        m.read,
        m.rest,
        a,
        m.items,
        b.items,
        refl,
        refl,
        is_opaque s p.at x.count r.fits r.count r.small,
        ap (λ (t : ℕ). take x.count (drop t s)) (sym r.start) ∙ sym (drop_take x.start x.count s) ∙ m.stands.there,
        here_on (Is body) r.start m.is,
        subst (λ (t : Span). Is (j t a) (p.at + length u) b.read f b.items) (span_is s p x e r) (here_on (Is (j x a)) at b.is),
      );
    }

-- each form of a script, given that the scripts in it are sound
sound_give : (a : Found) → Gave (follow (give a)) (Is (give a))
unfolding follow Is
sound_give a s p f q h e =
    let l : p ≡ q = cc in
    record { read = []; rest = drop p.at s; items = 0; stands = none s p.at h; at = ap (λ (t : Place). t.at) (sym l) ∙ sym (add-zero _); steps = ap (λ (t : Place). t.steps) (sym l) ∙ sym (add-zero _); is = (refl, cc, refl) }

module _ (i : Item) (j : Value → Script) (ih : (v : Value) → Gave (follow (j v)) (Is (j v))) where
  item_then : (s : List ℕ) (p : Place) (f : Found) (q : Place) (v : Value) (e : Place) → read_item i s p ≡ got v e → follow (j v) s e ≡ got f q → Read (Is (item i j)) s p f q
  unfolding Is
  item_then s p f q v e m n =
      let a = sound_item i s p v e m in
      let at = item_bytes i s p v e a in
      let b = ih v s e f q (rw a.at a.fits) n in
      record {
        read = take a.size (drop p.at s) ++ b.read;
        rest = b.rest;
        items = 1 + b.items;
        stands = joined (cut s p.at a.size a.fits) at b.stands;
        at = b.at ∙ ap (λ (t : ℕ). t + length b.read) at ∙ lengths p.at (take a.size (drop p.at s)) b.read;
        steps = b.steps ∙ ap (λ (t : ℕ). t + b.items) a.steps ∙ add_assoc p.steps 1 b.items;
        is = (take a.size (drop p.at s), b.read, v, b.items, refl, refl, a.is, here_on (Is (j v)) at b.is);
      }

  sound_item_then : Gave (follow (item i j)) (Is (item i j))
  unfolding follow
  sound_item_then s p f q h e = let w = split (read_item i s p) _ e in item_then s p f q w.value w.place w.first w.second

module _ (body : Script) (j : Span → Found → Script) (inner : Gave (follow body) (Is body)) (ih : (x : Span) (a : Found) → Gave (follow (j x a)) (Is (j x a))) where
  within_then : (s : List ℕ) (p : Place) (f : Found) (q : Place) (x : Span) (e : Place) (a : Found) (d : Place)
      → read_opaque s p ≡ got x e → inside x (follow body) s e ≡ got a d → follow (j x a) s d ≡ got f q → Read (Is (within body j)) s p f q
  within_then s p f q x e a d l m n =
      let r = opaque_read s p x e l in
      let i = inside_read (follow body) s x e a d m in
      within_read body j s p f q x e r a d i
      (inner (held_to x s) (place x.start e.steps) a i.last (inner_fits s p x e r) i.gave)
      (ih x a s d f q (outer_fits s p x e r d i.at) n)

  sound_within : Gave (follow (within body j)) (Is (within body j))
  sound_within s p f q h e =
      let w = split (read_opaque s p) (λ x t. then (inside x (follow body) s t) (λ a d. follow (j x a) s d)) (sym (follow_within body j s p) ∙ e) in
      let v = split (inside w.value (follow body) s w.place) (λ a d. follow (j w.value a) s d) w.second in
      within_then s p f q w.value w.place v.value v.place w.first v.first v.second

module _ (c : ℕ) (body : Script) (j : Found → Script) (inner : Gave (follow body) (Is body)) (ih : (a : Found) → Gave (follow (j a)) (Is (j a))) where
  repeat_then : (s : List ℕ) (p : Place) (f : Found) (q : Place) (v : Found) (e : Place) → p.at ≤ length s
      → times c (follow body) s p ≡ got v e → follow (j v) s e ≡ got f q → Read (Is (repeat c body j)) s p f q
  unfolding Is
  repeat_then s p f q v e h m n =
      let a = sound_many (follow body) (Is body) inner c s p v e h m in
      let b = ih v s e f q (rw a.at a.stands.fits) n in
      record {
        read = a.read ++ b.read;
        rest = b.rest;
        items = a.items + b.items;
        stands = joined a.stands a.at b.stands;
        at = b.at ∙ ap (λ (t : ℕ). t + length b.read) a.at ∙ lengths p.at a.read b.read;
        steps = b.steps ∙ ap (λ (t : ℕ). t + b.items) a.steps ∙ add_assoc p.steps a.items b.items;
        is = (a.read, b.read, v, a.items, b.items, refl, refl, a.is, here_on (Is (j v)) a.at b.is);
      }

  sound_repeat : Gave (follow (repeat c body j)) (Is (repeat c body j))
  sound_repeat s p f q h e =
      let w = split (times c (follow body) s p) (λ a t. follow (j a) s t) (sym (follow_repeat c body j s p) ∙ e) in
      repeat_then s p f q w.value w.place h w.first w.second

sound_here : (j : ℕ → Script) → ((o : ℕ) → Gave (follow (j o)) (Is (j o))) → Gave (follow (here j)) (Is (here j))
unfolding follow Is
sound_here j ih s p f q h e =
    let r = ih p.at s p f q h e in
    record { read = r.read; rest = r.rest; items = r.items; stands = r.stands; at = r.at; steps = r.steps; is = r.is }

sound_refuse : (code : ℕ) → Gave (follow (refuse code)) (Is (refuse code))
unfolding follow
sound_refuse code s p f q h e = never e

pub sound : (sc : Script) → Gave (follow sc) (Is sc)
sound (give a) = sound_give a
sound (refuse code) = sound_refuse code
sound (here j) = sound_here j (λ o. sound (j o))
sound (item i j) = sound_item_then i j (λ v. sound (j v))
sound (within body j) = sound_within body j (sound body) (λ x a. sound (j x a))
sound (repeat c body j) = sound_repeat c body j (sound body) (λ a. sound (j a))
