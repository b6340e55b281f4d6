-- What the readers of fields and of lists answer in terms of the reading, with the facts that the code has there. Assumes nothing.
use Rattle.std.proofs.Common.{ℕ, zero, suc, ◌+◌, ◌*◌, ◌-◌, ◌≡◌, ◌≤◌, ◌<◌, refl, sym, ap, ◌∙◌, List, [], ◌∷◌, length, map, take, drop, get_or, arith}
use native.Mathlib.Numerals.{add-one, sub-one}
use Rattle.reading.specs.Bytes.{be4}
use Rattle.reading.specs.Script.{Width, octet_count, Value, number, octets, Found, nothing, Item, block, Script, give}
use Rattle.reading.specs.Cursor.{Place, Out, got, stop, Reader, then, fixed, read_item, times, follow}
use Rattle.reading.specs.Layout.{Field, fields}
use Rattle.reading.proofs.Bounds.{Owes, owes_item, owes}
use Rattle.reading.proofs.Fields.{field_out, fields_out, fields_then, sole_gives}
use Rattle.reading.proofs.Words.{numbers_from, numbers}
use Rattle.xdr.specs.declared.Cursor.{Cursor}
use Rattle.xdr.specs.Shown.{Inside, place}

-- ---- the words of a row, one by one

module _ (s : List ℕ) (at : ℕ) where
  loads_from : (n m : ℕ) (w : List ℕ) → length w ≡ n → ((k : ℕ) → k < n → get_or w k 0 ≡ be4 s (at + (m + 4 * k))) → map number w ≡ numbers_from n s at m
  loads_from zero m [] e h = refl
  loads_from zero m (v ∷ w) e h = absurd (omega arith)
  loads_from (suc n) m [] e h = absurd (omega arith)
  loads_from (suc n) m (v ∷ w) e h =
      let a : m + 4 * 0 ≡ m = omega arith in
      let f : v ≡ be4 s (at + m) = h 0 (omega arith) ∙ ap (λ (j : ℕ). be4 s (at + j)) a in
      let g = loads_from n (m + 4) w (omega arith) (λ k l. let b : m + 4 * suc k ≡ m + 4 + 4 * k = omega arith in h (suc k) (omega arith) ∙ ap (λ (j : ℕ). be4 s (at + j)) b) in
      cc

  pub loads : (n : ℕ) (w : List ℕ) → length w ≡ n → ((k : ℕ) → k < n → get_or w k 0 ≡ be4 s (at + 4 * k)) → map number w ≡ numbers n s at
  loads zero [] e h = refl
  loads zero (v ∷ w) e h = absurd (omega arith)
  loads (suc n) [] e h = absurd (omega arith)
  loads (suc n) (v ∷ w) e h =
      let a : at + 4 * 0 ≡ at = omega arith in
      let f : v ≡ be4 s at = h 0 (omega arith) ∙ ap (λ (j : ℕ). be4 s j) a in
      let g = loads_from n 4 w (omega arith) (λ k l. let b : at + 4 * suc k ≡ at + (4 + 4 * k) = omega arith in h (suc k) (omega arith) ∙ ap (λ (j : ℕ). be4 s j) b) in
      cc

-- ---- a row by its words

-- n words of a row, from the one with index m on
abbrev pub words_from : (n m : ℕ) → List ℕ → List ℕ
words_from zero m w = []
words_from (suc n) m w = get_or w m 0 ∷ words_from n (m + 1) w

next_from : (n m v : ℕ) (w : List ℕ) → words_from n (m + 1) (v ∷ w) ≡ words_from n m w
next_from zero m v w = refl
next_from (suc n) m v w =
    let e = next_from n (m + 1) v w in
    let f : get_or (v ∷ w) (m + 1) 0 ≡ get_or w m 0 = rw add-one in
    cc

pub spelled : (n : ℕ) (w : List ℕ) → length w ≡ n → words_from n 0 w ≡ w
spelled zero [] l = refl
spelled zero (v ∷ w) l = absurd (omega arith)
spelled (suc n) [] l = absurd (omega arith)
spelled (suc n) (v ∷ w) l =
    let e = next_from n 0 v w in
    let f = spelled n w (omega arith) in
    cc

-- ---- a cursor behind what was read is inside, as the one before it

owed : (s : List ℕ) (c d : Cursor) → Inside s c → (c.at ≤ d.at) × (d.at ≤ length s) × (4 * d.steps + c.at ≤ 4 * c.steps + d.at) → Inside s d
owed s c d i o = record { inside = o.1; counted = omega (arith, i.counted, o.0, o.2) }

module _ (s : List ℕ) (c : Cursor) (i : Inside s c) where
  pub after_item : {v : Value} {d : Cursor} (x : Item) → got v (place d) ≡ read_item x s (place c) → Inside s d
  unfolding Owes
  after_item {d = d} x e = owed s c d i (rw (sym e) at (owes_item s (place c) x i.inside))

  pub after_block : {v : Value} {d : Cursor} (w : Width) → got v (place d) ≡ fixed (octet_count w) (octets (take (octet_count w) (drop c.at s))) s (place c) → Inside s d
  unfolding read_item
  after_block w e = after_item (block w) e

  pub after_script : {a : Found} {d : Cursor} (x : Script) → got a (place d) ≡ follow x s (place c) → Inside s d
  unfolding Owes
  after_script {d = d} x e = owed s c d i (rw (sym e) at (owes x s (place c) i.inside))

  pub after_fields : {vs : List Value} {d : Cursor} (l : List Field) → got vs (place d) ≡ fields_out l s (place c) → Inside s d
  unfolding follow
  after_fields l e = after_script {a = nothing} (fields l (λ vs. give nothing)) (sym (fields_then l (λ vs. give nothing) s (place c) ∙ rw (← e)))

  pub after_field : {v : Value} {d : Cursor} (f : Field) → got v (place d) ≡ field_out f s (place c) → Inside s d
  after_field f e = after_fields (f ∷ []) (sym (sole_gives f s (place c) (sym e)))

-- ---- scripts one after another: what is left of them ends as they all do

module _ (f : Reader Found) (s : List ℕ) where
  whole : (o : Out Found) → then o (λ b q. got b q) ≡ o
  whole (got b q) = refl
  whole (stop c a n) = refl

  pub more : (n : ℕ) (p q : Place) → 0 < n → got nothing q ≡ f s p → times (n - 1) f s q ≡ times n f s p
  unfolding times
  more zero p q l e = absurd (omega arith)
  more (suc n) p q l e = rw (← e, sub-one) (sym (whole (times n f s q)))

  pub refuses : {c a m : ℕ} (n : ℕ) (p : Place) → 0 < n → stop c a m ≡ f s p → stop c a m ≡ times n f s p
  unfolding times
  refuses zero p l e = absurd (omega arith)
  refuses (suc n) p l e = rw (← e)

  pub ended : (n : ℕ) (p : Place) → n ≤ 0 → times n f s p ≡ got nothing p
  unfolding times
  ended zero p l = refl
  ended (suc n) p l = absurd (omega arith)
