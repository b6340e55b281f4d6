-- What the cursor read, or refused, of one item or of one opaque, in the grammar's terms. Assumes nothing.
use Prim.Native.Nat.{ℕ, ◌+◌, ◌≤◌, ◌<◌}
use mathlib.Core.Path.{◌≡◌, refl, sym, ap, ◌∙◌, subst}
use mathlib.Core.Bool.{Bool, true, false, cond}
use mathlib.Core.List.{List}
use native.Mathlib.Omega.{arith}
use native.Mathlib.Nat.{add-zero}
use borrow.Author.Tests.{leb-true, leb-false}
use lib.Dec.{leb}
use lib.ListN.{length, take, drop, length-drop}
use lib.Seq.{drop-drop, drop_at, get_or-drop}
use Rattle.reading.specs.Sizes.{longest_opaque}
use Rattle.reading.specs.Bytes.{be4, padded}
use Rattle.reading.specs.Utf8.{utf8, well_formed_of, Longest}
use Rattle.reading.proofs.Utf8Longest.{longest, longest_short}
use Rattle.reading.specs.Script.{octet_count, Span, Value, number, part, Item, word, tested, long, int, block, opaque, string}
use Rattle.reading.specs.Cursor.{Place, Out, got, stop, then, on, fixed, bytes, ill_at, read_opaque, read_item}
use Rattle.reading.specs.Grammar.{Opaque, IsItem}
use Rattle.reading.proofs.Items.{never}
use Rattle.reading.proofs.Stands.{Stands, payload_there, bytes_there}
use Rattle.reading.proofs.SoundItems.{cut as standing, cut_length, sound_item}
use Rattle.demands.specs.Stops.{NoOpaque, no_length, too_long, cut, NoItem, no_word, no_tested, failed, no_long, no_int, no_block, no_part, no_string, Opens}

pub behind : {s x y : List ℕ} (o : ℕ) → Stands s o x y → drop (o + length x) s ≡ y
behind {s} {x} {y} o h = sym (drop-drop (length x) o s) ∙ ap (λ (l : List ℕ). drop (length x) l) h.there ∙ drop_at x y (length x) refl

pub word_drop : (s : List ℕ) (o : ℕ) → be4 s o ≡ be4 (drop o s) 0
unfolding be4
word_drop s o = simp (get_or-drop, add-zero)

-- ---- what was read

-- an item that was read, from p to q: these bytes are it
pub record ItemThere (i : Item) (s : List ℕ) (p : Place) (v : Value) (q : Place) : Type 0 where
  pub read : List ℕ
  pub rest : List ℕ
  pub stands : Stands s p.at read rest
  pub at : q.at ≡ p.at + length read
  pub steps : q.steps ≡ p.steps + 1
  pub is : IsItem i p.at read v

pub item_there : (i : Item) (s : List ℕ) (p : Place) (v : Value) (q : Place) → read_item i s p ≡ got v q → ItemThere i s p v q
item_there i s p v q e =
    let r = sound_item i s p v q e in
    record {
      read = take r.size (drop p.at s);
      rest = drop r.size (drop p.at s);
      stands = standing s p.at r.size r.fits;
      at = r.at ∙ ap (λ (n : ℕ). p.at + n) (sym (cut_length s p.at r.size r.fits));
      steps = r.steps;
      is = r.is;
    }

-- ---- what was not

-- a refusal is the same, of whatever it refuses
pub stop_as : {A B : Type 0} {c a n d b m : ℕ} → ◌≡◌ {A = Out A} (stop c a n) (stop d b m) → ◌≡◌ {A = Out B} (stop c a n) (stop d b m)
stop_as {A} {B} {c} {a} {n} {d} {b} {m} e =
    let i : c ≡ d = cc in
    let j : a ≡ b = cc in
    let k : n ≡ m = cc in
    rw (i, j, k)

-- a refusal of what stands at p, with nothing read
pub record AtOnce (P : ℕ → Type 0) (p : Place) (c a n : ℕ) : Type 0 where
  pub why : P c
  pub at : a ≡ p.at
  pub steps : n ≡ p.steps

-- an item that is refused: it is not there, or it is a string that is there and is not UTF-8
pub data Short (s : List ℕ) (p : Place) (c a n : ℕ) : Item → Type 0 where
  missing : {k : Item} → AtOnce (λ d. NoItem (drop p.at s) d k) p c a n → Short s p c a n k
  ill : (x : List ℕ) (j : ℕ) → Opens x (drop p.at s) → Longest x j → j < length x → c ≡ 7 → a ≡ p.at + 4 + j → n ≡ p.steps → Short s p c a n string

module _ (s : List ℕ) (p : Place) (i : p.at ≤ length s) {c a n : ℕ} where
  fixed_short : {A : Type 0} (m : ℕ) (x : A) → fixed m x s p ≡ stop c a n → AtOnce (λ d. (length (drop p.at s) < m) × (d ≡ 2)) p c a n
  unfolding fixed
  fixed_short {A} m x e = go (leb (p.at + m) (length s)) refl e
    where
      go : (t : Bool) → leb (p.at + m) (length s) ≡ t → cond t (got x (on m p)) (stop 2 p.at p.steps) ≡ stop c a n → AtOnce (λ d. (length (drop p.at s) < m) × (d ≡ 2)) p c a n
      go true t e = never (sym e)
      go false t e = let l = leb-false (p.at + m) (length s) t in record { why = (omega (arith, length-drop p.at s), cc); at = cc; steps = cc }

  pub opaque_short : read_opaque s p ≡ stop c a n → AtOnce (NoOpaque (drop p.at s)) p c a n
  unfolding read_opaque fixed
  opaque_short e = go (leb (p.at + 4) (length s)) refl e
    where
      w : ℕ
      w = be4 s p.at

      small : (u : Bool) → leb w longest_opaque ≡ u → p.at + 4 ≤ length s
          → cond u (fixed {A = Span} (4 + padded w) (record { start = p.at + 4; count = w }) s p) (stop 5 p.at p.steps) ≡ stop c a n → AtOnce (NoOpaque (drop p.at s)) p c a n
      small true u l e =
          let f = fixed_short {A = Span} (4 + padded w) (record { start = p.at + 4; count = w }) e in
          let b = leb-true w longest_opaque u in
          record { why = cut (omega (arith, length-drop p.at s)) (omega (arith, word_drop s p.at)) (rw (← word_drop s p.at) f.why.0) f.why.1; at = f.at; steps = f.steps }
      small false u l e = let b = leb-false w longest_opaque u in record { why = too_long (omega (arith, length-drop p.at s)) (omega (arith, word_drop s p.at)) cc; at = cc; steps = cc }

      go : (t : Bool) → leb (p.at + 4) (length s) ≡ t
          → then (cond t (got w (on 4 p)) (stop 2 p.at p.steps)) (λ m q.
          cond (leb m longest_opaque) (fixed {A = Span} (4 + padded m) (record { start = q.at; count = m }) s p) (stop 5 p.at p.steps)) ≡ stop c a n
          → AtOnce (NoOpaque (drop p.at s)) p c a n
      go true t e = small (leb w longest_opaque) refl (leb-true (p.at + 4) (length s) t) e
      go false t e = let l = leb-false (p.at + 4) (length s) t in record { why = no_length (omega (arith, length-drop p.at s)) cc; at = cc; steps = cc }

  string_short : (o : Out Span) → read_opaque s p ≡ o → then o (λ x q. cond (utf8 (bytes s x)) (got (part x) q) (stop 7 (ill_at s x) p.steps)) ≡ stop c a n → Short s p c a n string
  unfolding read_item IsItem
  string_short (stop d b m) f e = let r = opaque_short (f ∙ stop_as e) in missing (record { why = no_string r.why; at = r.at; steps = r.steps })
  string_short (got x q) f e = go (utf8 (bytes s x)) refl e
    where
      there : ItemThere opaque s p (part x) q
      there = item_there opaque s p (part x) q (rw f)

      go : (t : Bool) → utf8 (bytes s x) ≡ t → cond t (got (part x) q) (stop 7 (ill_at s x) p.steps) ≡ stop c a n → Short s p c a n string
      go true t e = never (sym e)
      go false t e = parts there.is
        where
          parts : (y : List ℕ) × Opaque y there.read × (part x ≡ part (record { start = p.at + 4; count = length y })) → Short s p c a n string
          parts (y, o, v) =
              let z : x ≡ record { start = p.at + 4; count = length y } = cc in
              let g : bytes s x ≡ y = ap (bytes s) z ∙ bytes_there (p.at + 4) (payload_there p.at o there.stands).1 in
              let l : Longest y (well_formed_of (bytes s x)) = subst (λ (u : List ℕ). Longest u (well_formed_of (bytes s x))) g (longest (bytes s x)) in
              let h : x.start ≡ p.at + 4 = ap (λ (u : Span). u.start) z in
              let i : a ≡ x.start + well_formed_of (bytes s x) = cc in
              ill y (well_formed_of (bytes s x)) (record { read = there.read; rest = there.rest; joined = rw there.stands.there; is = o }) l (longest_short l (ap utf8 (sym g) ∙ t)) (cc) (i ∙ ap (λ (u : ℕ). u + well_formed_of (bytes s x)) h) cc

  pub item_short : (k : Item) → read_item k s p ≡ stop c a n → Short s p c a n k
  unfolding read_item
  item_short word e = let r = fixed_short 4 _ e in missing (record { why = no_word r.why.0 r.why.1; at = r.at; steps = r.steps })
  item_short (tested ok code) e = go (leb (p.at + 4) (length s)) refl (ok (be4 s p.at)) refl e
    where
      go : (t : Bool) → leb (p.at + 4) (length s) ≡ t → (y : Bool) → ok (be4 s p.at) ≡ y
          → cond t (cond y (got (number (be4 s p.at)) (on 4 p)) (stop code p.at p.steps)) (stop 2 p.at p.steps) ≡ stop c a n → Short s p c a n (tested ok code)
      go true t true y e = never (sym e)
      go true t false y e =
          let l = leb-true (p.at + 4) (length s) t in
          missing (record { why = failed {c = code} (omega (arith, length-drop p.at s)) (ap ok (sym (word_drop s p.at)) ∙ y) cc; at = cc; steps = cc })
      go false t y z e = let l = leb-false (p.at + 4) (length s) t in missing (record { why = no_tested (omega (arith, length-drop p.at s)) cc; at = cc; steps = cc })
  item_short long e = let r = fixed_short 8 _ e in missing (record { why = no_long r.why.0 r.why.1; at = r.at; steps = r.steps })
  item_short int e = let r = fixed_short 4 _ e in missing (record { why = no_int r.why.0 r.why.1; at = r.at; steps = r.steps })
  item_short (block w) e = let r = fixed_short (octet_count w) _ e in missing (record { why = no_block r.why.0 r.why.1; at = r.at; steps = r.steps })
  item_short opaque e = go (read_opaque s p) refl e
    where
      go : (o : Out Span) → read_opaque s p ≡ o → then o (λ x q. got (part x) q) ≡ stop c a n → Short s p c a n opaque
      go (got x q) f e = never (sym e)
      go (stop d b m) f e =
          let r = opaque_short (f ∙ stop_as e) in
          missing (record { why = no_part r.why; at = r.at; steps = r.steps })
  item_short string e = string_short (read_opaque s p) refl e
