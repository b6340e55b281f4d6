-- An item that the cursor reads is one by the grammar. Assumes nothing.
use Prim.Native.Nat.{ℕ, ◌+◌, ◌≤◌}
use mathlib.Core.Path.{◌≡◌, refl, sym, ap, ◌∙◌}
use mathlib.Core.Bool.{Bool, true, false, cond}
use mathlib.Core.List.{List, ◌++◌}
use native.Mathlib.Omega.{arith}
use borrow.Author.Tests.{leb-true}
use lib.Dec.{leb}
use lib.ListN.{length, take, drop, take-append-drop, length-drop}
use lib.Seq.{length-take-le, drop-drop, take-add}
use Rattle.reading.specs.Sizes.{longest_opaque}
use Rattle.reading.specs.Bytes.{signed, be4, be8, pads, padded}
use Rattle.reading.specs.Utf8.{utf8}
use Rattle.reading.specs.Script.{octet_count, Span, Value, number, integer, octets, part, Item, word, tested, long, int, block, opaque, string}
use Rattle.reading.specs.Cursor.{Place, got, stop, on, fixed, bytes, ill_at, read_opaque, read_item}
use Rattle.reading.specs.Grammar.{Opaque, IsItem}
use Rattle.reading.proofs.Items.{never, split, fixed_read, OpaqueRead, opaque_read}
use Rattle.reading.proofs.Stands.{Stands, be4_at, be4_here}

-- n bytes that are there, cut out
module _ (s : List ℕ) (o n : ℕ) (fits : o + n ≤ length s) where
  pub cut_length : length (take n (drop o s)) ≡ n
  cut_length = length-take-le n (drop o s) (rw length-drop (omega arith))

  pub cut : Stands s o (take n (drop o s)) (drop n (drop o s))
  cut = record { there = sym (take-append-drop n (drop o s)); fits = rw cut_length fits }

-- an item that was read: the bytes that it is
pub record ItemRead (i : Item) (s : List ℕ) (p : Place) (v : Value) (q : Place) : Type 0 where
  pub size : ℕ
  pub fits : p.at + size ≤ length s
  pub at : q.at ≡ p.at + size
  pub steps : q.steps ≡ p.steps + 1
  pub is : IsItem i p.at (take size (drop p.at s)) v

-- its bytes are an opaque that holds the span's bytes
module _ (s : List ℕ) (o n : ℕ) (fits : o + (4 + padded n) ≤ length s) (count : be4 s o ≡ n) (small : n ≤ longest_opaque) where
  pub held_length : length (take n (drop (o + 4) s)) ≡ n
  held_length = cut_length s (o + 4) n (omega arith)

  pub is_opaque : Opaque (take n (drop (o + 4) s)) (take (4 + padded n) (drop o s))
  is_opaque = record {
    size = take 4 (drop o s);
    pad = take (pads n) (drop (o + 4 + n) s);
    joined = take-add 4 (padded n) (drop o s) ∙ ap (λ (t : List ℕ). take 4 (drop o s) ++ t) (ap (λ (t : List ℕ). take (padded n) t) (drop-drop 4 o s) ∙ take-add n (pads n) (drop (o + 4) s) ∙ ap (λ (t : List ℕ). take n (drop (o + 4) s) ++ take (pads n) t) (drop-drop n (o + 4) s));
    four = cut_length s o 4 (omega arith);
    counts = sym (be4_here o (cut s o 4 (omega arith)) (rw (cut_length s o 4 (omega arith)) (omega arith))) ∙ count ∙ sym held_length;
    small = rw held_length (omega arith);
    filled = omega (arith, cut_length s (o + 4 + n) (pads n) (omega arith), held_length);
  }

-- an opaque's item, from what was read of it
spanned : (s : List ℕ) (p : Place) (x : Span) (e : Place) → OpaqueRead s p x e → (i : Item) (v : Value) (q : Place) → got (part x) e ≡ got v q
    → ((u y : List ℕ) → y ≡ bytes s x → Opaque y u → v ≡ part (record { start = p.at + 4; count = length y }) → IsItem i p.at u v)
    → ItemRead i s p v q
spanned s p x e r i v q h k =
    let a : e ≡ q = cc in
    let b : v ≡ part x = cc in
    let y : take x.count (drop (p.at + 4) s) ≡ bytes s x = ap (λ (j : ℕ). take x.count (drop j s)) (sym r.start) in
    let l = held_length s p.at x.count r.fits r.count r.small in
    let z : part x ≡ part (record { start = p.at + 4; count = length (take x.count (drop (p.at + 4) s)) }) = rw l (ap (λ (j : ℕ). part (record { start = j; count = x.count })) r.start) in
    record {
      size = 4 + padded x.count;
      fits = r.fits;
      at = ap (λ (t : Place). t.at) (sym a) ∙ r.at;
      steps = ap (λ (t : Place). t.steps) (sym a) ∙ r.steps;
      is = k _ _ y (is_opaque s p.at x.count r.fits r.count r.small) (b ∙ z);
    }

-- an item of one word, by what it makes of the word
four_item : (i : Item) (f : ℕ → Value) → ((o : ℕ) (b : List ℕ) (v : Value) → (length b ≡ 4) × (v ≡ f (be4 b 0)) → IsItem i o b v)
    → (s : List ℕ) (p : Place) (v : Value) (q : Place) → fixed 4 (f (be4 s p.at)) s p ≡ got v q → ItemRead i s p v q
four_item i f is s p v q h =
    let r = fixed_read 4 (f (be4 s p.at)) s p h in
    let l = cut_length s p.at 4 r.0 in
    record { size = 4; fits = r.0; at = r.2; steps = r.3; is = is _ _ _ (l, r.1 ∙ ap f (be4_here p.at (cut s p.at 4 r.0) (omega arith))) }

pub sound_item : (i : Item) (s : List ℕ) (p : Place) (v : Value) (q : Place) → read_item i s p ≡ got v q → ItemRead i s p v q
unfolding read_item IsItem be8
sound_item word s p v q h = four_item word number (λ o b v t. t) s p v q h
sound_item int s p v q h = four_item int (λ n. integer (signed n)) (λ o b v t. t) s p v q h
sound_item (tested ok code) s p v q h = go (leb (p.at + 4) (length s)) refl (ok (be4 s p.at)) refl h
  where
    go : (b : Bool) → leb (p.at + 4) (length s) ≡ b → (y : Bool) → ok (be4 s p.at) ≡ y
        → cond b (cond y (got (number (be4 s p.at)) (on 4 p)) (stop code p.at p.steps)) (stop 2 p.at p.steps) ≡ got v q → ItemRead (tested ok code) s p v q
    go true t true y e =
        let r : p.at + 4 ≤ length s = leb-true _ _ t in
        let l = cut_length s p.at 4 r in
        let z = be4_here p.at (cut s p.at 4 r) (omega arith) in
        record { size = 4; fits = r; at = cc; steps = cc; is = (l, ap ok (sym z) ∙ y, cc) }
    go true t false y e = never e
    go false t y z e = never e
sound_item long s p v q h =
    let f = fixed_read 8 (number (be8 s p.at)) s p h in
    let l = cut_length s p.at 8 f.0 in
    let a = be4_here p.at (cut s p.at 8 f.0) (omega arith) in
    let b = be4_at p.at (cut s p.at 8 f.0) 4 (omega arith) in
    record { size = 8; fits = f.0; at = f.2; steps = f.3; is = (l, f.1 ∙ simp (a, b)) }
sound_item (block w) s p v q h =
    let f = fixed_read (octet_count w) (octets (take (octet_count w) (drop p.at s))) s p h in
    record { size = octet_count w; fits = f.0; at = f.2; steps = f.3; is = (cut_length s p.at (octet_count w) f.0, f.1) }
sound_item opaque s p v q h =
    let w = split (read_opaque s p) _ h in
    spanned s p w.value w.place (opaque_read s p w.value w.place w.first) opaque v q w.second (λ u y t o e. (y, o, e))
sound_item string s p v q h =
    let w = split (read_opaque s p) _ h in
    go w.value w.place (opaque_read s p w.value w.place w.first) (utf8 (bytes s w.value)) refl w.second
  where
    go : (x : Span) (e : Place) → OpaqueRead s p x e → (b : Bool) → utf8 (bytes s x) ≡ b → cond b (got (part x) e) (stop 7 (ill_at s x) p.steps) ≡ got v q → ItemRead string s p v q
    go x e r true t k = spanned s p x e r string v q k (λ u y m o z. (y, o, ap utf8 m ∙ t, z))
    go x e r false t k = never k
