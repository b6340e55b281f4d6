-- Field reading, in the grammar's terms: codes 1, 10 and 11 in this order, then the layout from the start of the range, held to the range; read by
-- the grammar, or stopped after so many items with why the next is none. Each answer is one of these, and none of these is another answer.
-- Assumes nothing.
use Prim.Native.Nat.{ℕ, ◌+◌, ◌*◌, ◌-◌, ◌≤◌, ◌<◌}
use mathlib.Core.Logic.{◌↔◌}
use mathlib.Core.Path.{◌≡◌, refl, sym, ap, ◌∙◌, subst}
use mathlib.Core.Bool.{Bool, true, false, cond}
use mathlib.Core.List.{List, ◌++◌}
use native.Mathlib.Omega.{arith}
use native.Mathlib.Nat.{zero-add}
use borrow.Author.Tests.{le-leb, lt-leb, eq-eqb, leb-true, leb-false, eqb-true, eqb-false}
use lib.Dec.{eqb, leb}
use lib.ListN.{length, take, drop, replicate, length-append, length-replicate, length-drop, length-take}
use lib.Seq.{length-take-le, drop_at}
use Rattle.reading.specs.Utf8.{◌&◌}
use Rattle.reading.specs.Script.{Value, Found}
use Rattle.reading.specs.Cursor.{Place, Out, got, stop, follow}
use Rattle.reading.specs.Grammar.{Is}
use Rattle.reading.specs.Layout.{Mode, Field}
use Rattle.reading.specs.Values.{alone, valued, reading}
use Rattle.reading.specs.Answer.{from, layout_of, Fields, answered, unread, read}
use Rattle.reading.specs.Sizes.{longest_input}
use Rattle.reading.proofs.Items.{split}
use Rattle.reading.proofs.Stands.{place, drop_take}
use Rattle.reading.proofs.Bounds.{Owes, owes}
use Rattle.reading.proofs.Fields.{fields_out, fields_then}
use Rattle.reading.proofs.Sound.{sound}
use Rattle.reading.proofs.Complete.{complete}
use Rattle.reading.specs.Numbers.{known}
use Rattle.reading.proofs.Codes.{fair_layout}
use Rattle.demands.specs.Stops.{Stops}
use Rattle.demands.specs.Codes.{field_codes}
use Rattle.demands.proofs.Codes.{layout_code, of_fields}
use Rattle.demands.proofs.Stopped.{stopped}
use Rattle.demands.proofs.Stopping.{Left, part_stands}
use Rattle.demands.proofs.Halting.{halting}
use Rattle.demands.specs.FieldsItemised.{only_values, no_fields, FieldsReading, Held, read_whole, stopped_at, FieldsItemised, too_long, passes, other, held, FieldsRead}

-- ---- a layout that is read from `start` on in t, with b left of t there
module _ (l : List Field) {t b : List ℕ} {start : ℕ} (h : Left t start b) where
  held_out : (o : Out Found) → follow (alone l) t (from start) ≡ o → Held l start b (answered (valued l o))
  unfolding answered valued follow
  held_out (stop c i n) e =
      let r = stopped (alone l) t (from start) c i n h.fits e in
      let m : r.items ≡ n = sym (r.steps ∙ zero-add r.items) in
      stopped_at c i n (subst (λ (j : ℕ). Stops (alone l) start b c i j) m (subst (λ (b : List ℕ). Stops (alone l) start b c i r.items) h.there r.stops)) refl
  held_out (got a q) e =
      let r = sound (alone l) t (from start) a q h.fits e in
      let w = split (fields_out l t (from start)) _ (sym (fields_then l _ t (from start)) ∙ e) in
      let g : got (only_values w.value) w.place ≡ got a q = w.second in
      let x : a ≡ only_values w.value = cc in
      let y : a ≡ only_values a.values = x ∙ ap (λ (f : Found). only_values f.values) (sym x) in
      let z : q ≡ place (start + length r.read) r.items = λ i. record { at = r.at i; steps = (r.steps ∙ zero-add r.items) i } in
      read_whole a.values (length r.read) r.items
      (record { read = r.read; rest = r.rest; joined = sym h.there ∙ r.stands.there; long = refl; is = subst (λ (f : Found). Is (alone l) start r.read f r.items) y r.is })
      (ap (λ (p : Place). record { code = 0; at = p.at; steps = p.steps; values = a.values }) z)

  pub layout_held : Held l start b (answered (reading l t (from start)))
  unfolding reading
  layout_held = held_out (follow (alone l) t (from start)) refl

  -- and a reading by the grammar, or a stop, is answered just so
  reading_answered : {vs : List Value} {bytes items : ℕ} → FieldsReading l start b vs bytes items → answered (reading l t (from start)) ≡ record { code = 0; at = start + bytes; steps = items; values = vs }
  unfolding answered valued reading
  reading_answered {vs} {bytes} {items} r =
      ap (λ (o : Out Found). answered (valued l o)) (complete (alone l) t r.read r.rest (only_values vs) start 0 items r.is (part_stands r.read r.rest r.joined h))
      ∙ ap (λ (n : ℕ). record { code = 0; at = start + length r.read; steps = n; values = vs }) (zero-add items)
      ∙ ap (λ (n : ℕ). record { code = 0; at = start + n; steps = items; values = vs }) r.long

  stop_answered : {c i n : ℕ} → Stops (alone l) start b c i n → answered (reading l t (from start)) ≡ no_fields l c i n
  unfolding answered valued reading
  stop_answered {c} {i} {n} x = ap (λ (o : Out Found). answered (valued l o)) (halting x t 0 h) ∙ ap (λ (j : ℕ). no_fields l c i j) (zero-add n)

  pub held_only : {a : Fields} → Held l start b a → a ≡ answered (reading l t (from start))
  held_only (read_whole vs bytes items r e) = e ∙ sym (reading_answered r)
  held_only (stopped_at c i n x e) = e ∙ sym (stop_answered x)

  -- four bytes of b for each step
  pub held_steps : 4 * (answered (reading l t (from start))).steps ≤ length b
  unfolding reading answered valued Owes
  held_steps = go (follow (alone l) t (from start)) (owes (alone l) t (from start) h.fits)
    where
      z : length b ≡ length t - start
      z = ap length (sym h.there) ∙ length-drop start t

      go : (o : Out Found) → Owes t (from start) o → 4 * (answered (valued l o)).steps ≤ length b
      go (got a q) w = omega (arith, z, w.1, w.2)
      go (stop c i n) w = omega (arith, z)

-- no bytes are two readings of a layout
module _ (l : List Field) (start : ℕ) (b : List ℕ) where
  behind_zeros : Left (replicate start 0 ++ b) start b
  behind_zeros =
      let n = length-replicate {A = ℕ} start 0 in
      record { there = drop_at (replicate start 0) b start n; fits = rw (length-append, n) (omega arith) }

  pub one_fields_reading : {vs us : List Value} {n m k j : ℕ} → FieldsReading l start b vs n k → FieldsReading l start b us m j → (vs ≡ us) × (n ≡ m) × (k ≡ j)
  one_fields_reading x y =
      let e = sym (reading_answered l behind_zeros x) ∙ reading_answered l behind_zeros y in
      let i = ap (λ (a : Fields). a.at) e in
      (ap (λ (a : Fields). a.values) e, omega (arith, i), ap (λ (a : Fields). a.steps) e)

-- ---- field reading

-- a range of s, as what is left of s up to its end
range_left : (s : List ℕ) (start extent : ℕ) → start + extent ≤ length s → Left (take (start + extent) s) start (take extent (drop start s))
range_left s start extent fits = record { there = drop_take start extent s; fits = rw (length-take-le (start + extent) s fits) (omega arith) }

module _ (mode : Mode) (ak af : ℕ) (s : List ℕ) (k f start extent : ℕ) where
  pub fields_itemised : FieldsItemised mode ak af s k f start extent (read mode ak af s k f start extent)
  unfolding read answered valued
  fields_itemised = in_limit (leb (length s) longest_input) refl
    where
      l : List Field
      l = layout_of mode ak af

      asked : (b d : Bool) → eqb k ak ≡ b → eqb f af ≡ d → length s ≤ longest_input → start + extent ≤ length s
          → FieldsItemised mode ak af s k f start extent (answered (cond (b & d) (reading l (take (start + extent) s) (from start)) (unread l 11)))
      asked true true e g h i = held h i (eqb-true k ak e) (eqb-true f af g) (layout_held l (range_left s start extent i))
      asked true false e g h i = other h i (λ z. eqb-false f af g z.1) refl
      asked false d e g h i = other h i (λ z. eqb-false k ak e z.0) refl

      in_range : (b : Bool) → leb (start + extent) (length s) ≡ b → length s ≤ longest_input
          → FieldsItemised mode ak af s k f start extent (answered (cond b (cond (eqb k ak & eqb f af) (reading l (take (start + extent) s) (from start)) (unread l 11)) (unread l 10)))
      in_range true e h = asked (eqb k ak) (eqb f af) refl refl h (leb-true _ _ e)
      in_range false e h = passes h (leb-false _ _ e) refl

      in_limit : (b : Bool) → leb (length s) longest_input ≡ b
          → FieldsItemised mode ak af s k f start extent
          (answered (cond b (cond (leb (start + extent) (length s)) (cond (eqb k ak & eqb f af) (reading l (take (start + extent) s) (from start)) (unread l 11)) (unread l 10)) (unread l 1)))
      in_limit true e = in_range (leb (start + extent) (length s)) refl (leb-true _ _ e)
      in_limit false e = too_long (leb-false _ _ e) refl

  -- what is read, where the range is there and asked for its own kind and format
  own_read : length s ≤ longest_input → start + extent ≤ length s → k ≡ ak → f ≡ af → read mode ak af s k f start extent ≡ answered (reading (layout_of mode ak af) (take (start + extent) s) (from start))
  unfolding read
  own_read h i x y = rw (le-leb (length s) longest_input h, le-leb (start + extent) (length s) i, eq-eqb k ak x, eq-eqb f af y)

  not_both : (b d : Bool) → eqb k ak ≡ b → eqb f af ≡ d → ((k ≡ ak) × (f ≡ af) → ⊥) → (b & d) ≡ false
  not_both true true x y n = absurd (n (eqb-true k ak x, eqb-true f af y))
  not_both true false x y n = refl
  not_both false d x y n = refl

  -- code 1 before all
  pub fields_too_long : longest_input < length s → read mode ak af s k f start extent ≡ no_fields (layout_of mode ak af) 1 0 0
  unfolding read answered valued
  fields_too_long h = rw (lt-leb (length s) longest_input h)

  -- there is one such answer
  pub itemised_only : {a : Fields} → FieldsItemised mode ak af s k f start extent a → a ≡ read mode ak af s k f start extent
  unfolding read answered valued
  itemised_only (too_long h e) = e ∙ sym (fields_too_long h)
  itemised_only (passes h i e) = e ∙ rw (le-leb (length s) longest_input h, lt-leb (start + extent) (length s) i)
  itemised_only (other h i n e) = e ∙ rw (le-leb (length s) longest_input h, le-leb (start + extent) (length s) i, not_both (eqb k ak) (eqb f af) refl refl n)
  itemised_only (held h i x y t) = held_only (layout_of mode ak af) (range_left s start extent i) t ∙ sym (own_read h i x y)

  -- four bytes of the range for each step
  pub fields_quartered : 4 * (read mode ak af s k f start extent).steps ≤ extent
  fields_quartered = go (read mode ak af s k f start extent) refl (fields_itemised)
    where
      none : (a : Fields) {n : ℕ} → a.steps ≡ n → n ≡ 0 → 4 * a.steps ≤ extent
      none a e z = omega arith

      go : (a : Fields) → read mode ak af s k f start extent ≡ a → FieldsItemised mode ak af s k f start extent a → 4 * a.steps ≤ extent
      go a r (too_long h e) = none a (ap (λ (b : Fields). b.steps) e) refl
      go a r (passes h i e) = none a (ap (λ (b : Fields). b.steps) e) refl
      go a r (other h i n e) = none a (ap (λ (b : Fields). b.steps) e) refl
      go a r (held h i x y t) =
          let m = held_steps (layout_of mode ak af) (range_left s start extent i) in
          let z : a.steps ≡ (answered (reading (layout_of mode ak af) (take (start + extent) s) (from start))).steps = ap (λ (b : Fields). b.steps) (sym r ∙ own_read h i x y) in
          omega (arith, m, z, length-take extent (drop start s))

  -- the code is one of the table's
  pub fields_coded : known field_codes (read mode ak af s k f start extent).code ≡ true
  fields_coded = go (read mode ak af s k f start extent) fields_itemised
    where
      by : (a : Fields) {n : ℕ} → a.code ≡ n → n ≤ 11 → (n ≡ 8 → ⊥) → (n ≡ 9 → ⊥) → known field_codes a.code ≡ true
      by a e h x y = rw e (of_fields _ h x y)

      go : (a : Fields) → FieldsItemised mode ak af s k f start extent a → known field_codes a.code ≡ true
      go a (too_long h e) = by a (ap (λ (b : Fields). b.code) e) (omega arith) (λ z. omega arith) (λ z. omega arith)
      go a (passes h i e) = by a (ap (λ (b : Fields). b.code) e) (omega arith) (λ z. omega arith) (λ z. omega arith)
      go a (other h i n e) = by a (ap (λ (b : Fields). b.code) e) (omega arith) (λ z. omega arith) (λ z. omega arith)
      go a (held h i x y (read_whole vs bytes items r e)) = by a (ap (λ (b : Fields). b.code) e) (omega arith) (λ z. omega arith) (λ z. omega arith)
      go a (held h i x y (stopped_at c j n t e)) =
          let m = layout_code (layout_of mode ak af) (fair_layout mode ak af) t in
          by a (ap (λ (b : Fields). b.code) e) (omega (arith, m.1)) (λ z. omega (arith, m.1)) (λ z. omega (arith, m.1))

  -- which is 0 exactly where the fields asked for are read
  pub fields_accepted : ((read mode ak af s k f start extent).code ≡ 0) ↔ ((vs : List Value) × (bytes items : ℕ) × FieldsRead mode ak af s k f start extent vs bytes items)
  fields_accepted = (λ z. go (read mode ak af s k f start extent) fields_itemised z, λ (vs, bytes, items, r). ap (λ (a : Fields). a.code) (answer r))
    where
      never : {A : Type 0} {c n : ℕ} → c ≡ n → c ≡ 0 → 0 < n → A
      never e z h = absurd (omega arith)

      go : (a : Fields) → FieldsItemised mode ak af s k f start extent a → a.code ≡ 0 → (vs : List Value) × (bytes items : ℕ) × FieldsRead mode ak af s k f start extent vs bytes items
      go a (too_long h e) z = never (ap (λ (b : Fields). b.code) e) z (omega arith)
      go a (passes h i e) z = never (ap (λ (b : Fields). b.code) e) z (omega arith)
      go a (other h i n e) z = never (ap (λ (b : Fields). b.code) e) z (omega arith)
      go a (held h i x y (read_whole vs bytes items r e)) z = (vs, bytes, items, record { short = h; lies = omega arith; kind = x; format = y; reading = r })
      go a (held h i x y (stopped_at c j n t e)) z = let m = layout_code (layout_of mode ak af) (fair_layout mode ak af) t in never (ap (λ (b : Fields). b.code) e) z (omega (arith, m.0))

      answer : {vs : List Value} {bytes items : ℕ} → FieldsRead mode ak af s k f start extent vs bytes items → read mode ak af s k f start extent ≡ record { code = 0; at = start + bytes; steps = items; values = vs }
      answer {vs} {bytes} {items} r = sym (itemised_only (held r.short r.lies r.kind r.format (read_whole vs bytes items r.reading refl)))
