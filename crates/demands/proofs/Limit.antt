-- The grammar knows no limit of depth: what it reads with n levels has no record deeper than n, and where it has none deeper than m it is
-- read with m levels just so. By the layouts. Assumes nothing.
use Prim.Native.Nat.{ℕ, zero, suc, ◌-◌, ◌≤◌, ◌<◌}
use mathlib.Core.Path.{◌≡◌, refl, sym, subst}
use mathlib.Core.Bool.{Bool, true, false, cond}
use mathlib.Core.List.{List, [], ◌∷◌}
use native.Mathlib.Omega.{arith}
use lib.Dec.{eqb}
use Rattle.reading.specs.Script.{Value, Found, nothing, Item, Script, give, here, item, repeat}
use Rattle.reading.specs.Grammar.{Many, Is}
use Rattle.reading.specs.Layout.{Mode, num, Field, plain, mac, addr, list, segments, address_of, run_of, field, fields, Row, ◌⟼◌, ◌⟼◌each◌, last_number, opened, Fixed, fixed_rows, ranged, between, framed, pdu, flows, flow, counters, counter, samples, sample, header, datagram_to}
use Rattle.demands.specs.Depths.{Shallow, none, also}
use Rattle.demands.proofs.Depths.{joined, front, back, inner_shallow, own_depth}

-- of what `a` is read as: it is no deeper than n, and where it is no deeper than m, `b` is read as the same
record Both (n m : ℕ) (a b : Script) : Type 0 where
  says : (o : ℕ) (u : List ℕ) (f : Found) (k : ℕ) → Is a o u f k → Shallow n f.ranges × (Shallow m f.ranges → Is b o u f k)

two : {n m : ℕ} {a b c d : Script} (t : Bool) → Both n m a b → Both n m c d → Both n m (cond t a c) (cond t b d)
two true h g = h
two false h g = g

module _ (mode : Mode) (n m : ℕ) where
  found_as : {f a : Found} → f ≡ a → Shallow n a.ranges → Shallow n f.ranges
  found_as e h = subst (λ (b : Found). Shallow n b.ranges) (sym e) h

  as_found : {f a : Found} → f ≡ a → Shallow m f.ranges → Shallow m a.ranges
  as_found e h = subst (λ (b : Found). Shallow m b.ranges) e h

  both_none : Both n m (give nothing) (give nothing)
  unfolding Is
  both_none = record { says = λ o u f k (e, g, l). (found_as g none, λ z. (e, g, l)) }

  both_item : (i : Item) {a b : Value → Script} → ((v : Value) → Both n m (a v) (b v)) → Both n m (item i a) (item i b)
  unfolding Is
  both_item i h = record { says = λ o u f k (x, y, v, l, e, en, ix, iy). let r = (h v).says _ _ _ _ iy in (r.0, λ z. (x, y, v, l, e, en, ix, r.1 z)) }

  both_run : (body : Script) {a b : Value → Script} → ((v : Value) → Both n m (a v) (b v)) → Both n m (run_of body a) (run_of body b)
  unfolding Is run_of
  both_run body h = record {
    says = λ o u f k (x, y, v, l, e, en, ix, (x', y', c, i, j, e', en', many, iy)).
        let r = (h _).says _ _ _ _ iy in
        (r.0, λ z. (x, y, v, l, e, en, ix, (x', y', c, i, j, e', en', many, r.1 z)));
  }

  both_address : (t : ℕ) {a b : Value → Script} → ((v : Value) → Both n m (a v) (b v)) → Both n m (address_of t a) (address_of t b)
  unfolding address_of
  both_address zero h = h _
  both_address (suc zero) h = both_item _ (λ c. h _)
  both_address (suc (suc t)) h = both_item _ (λ c. h _)

  both_field : (g : Field) {a b : Value → Script} → ((v : Value) → Both n m (a v) (b v)) → Both n m (field g a) (field g b)
  unfolding field
  both_field (plain i) h = both_item i h
  both_field mac h = both_item _ (λ c. h _)
  both_field addr h = both_item _ (λ t. both_address (num t) h)
  both_field list h = both_run _ h
  both_field segments h = both_run _ h

  both_fields : (l : List Field) {a b : List Value → Script} → ((vs : List Value) → Both n m (a vs) (b vs)) → Both n m (fields l a) (fields l b)
  unfolding fields
  both_fields [] h = h []
  both_fields (g ∷ rest) h = both_field g (λ v. both_fields rest (λ vs. h (v ∷ vs)))

  -- so many, end to end
  both_many : {a b : Script} → Both n m a b → (c o : ℕ) (u : List ℕ) (f : Found) (k : ℕ) → Many c (Is a) o u f k → Shallow n f.ranges × (Shallow m f.ranges → Many c (Is b) o u f k)
  unfolding Many
  both_many h zero o u f k (e, g, l) = (found_as g none, λ z. (e, g, l))
  both_many h (suc c) o u f k (x, y, g, g', i, j, e, ef, en, px, py) =
      let r = h.says _ _ _ _ px in
      let t = both_many h c _ _ _ _ py in
      (found_as ef (joined r.0 t.0), λ z. (x, y, g, g', i, j, e, ef, en, r.1 (front g.ranges g'.ranges (as_found ef z)), t.1 (back g.ranges g'.ranges (as_found ef z))))

  both_each : (c : ℕ) {a b : Script} → Both n m a b → Both n m (repeat c a (λ r. give r)) (repeat c b (λ r. give r))
  unfolding Is
  both_each c h = record {
    says = λ o u f k (x, y, a, i, j, e, en, many, (ey, ef, ej)).
        let r = both_many h c _ _ _ _ many in
        (found_as ef r.0, λ z. (x, y, a, i, j, e, en, r.1 (as_found ef z), (ey, ef, ej)));
  }

  -- ---- frames

  both_framed : (kind depth : ℕ) {a b : ℕ → Script} → (kind ≡ 2 → depth ≤ n) → ((f : ℕ) → Both n m (a f) (b f)) → Both n m (framed kind depth a) (framed kind depth b)
  unfolding Is
  both_framed kind depth d h = record {
    says = λ o u f k (x, y, v, l, e, en, ix, (x', y', s, inner, rest, a, i, j, e', en', q, es, ia, (ey, ef, ej))).
        let r = (h (num v)).says _ _ _ _ ia in
        (found_as ef (also d r.0 none), λ z. (x, y, v, l, e, en, ix, (x', y', s, inner, rest, a, i, j, e', en', q, es, r.1 (inner_shallow (as_found ef z)), (ey, ef, ej))));
  }

  both_pdu : (depth : ℕ) {a b : Script} → Both n m a b → Both n m (pdu depth a) (pdu depth b)
  unfolding Is
  both_pdu depth h = record {
    says = λ o u f k (x, y, v, l, e, en, ix, (x', y', a, i, j, e', en', many, (ey, ef, ej))).
        let r = both_many h (num v) _ _ _ _ many in
        (found_as ef (also (λ z. absurd (omega arith)) r.0 none), λ z. (x, y, v, l, e, en, ix, (x', y', a, i, j, e', en', r.1 (inner_shallow (as_found ef z)), (ey, ef, ej))));
  }

  data Rows : List Row → List Row → Type 0 where
    over : Rows [] []
    flat : {g : ℕ} {l : List Field} {r t : List Row} → Rows r t → Rows ((g ⟼ l) ∷ r) ((g ⟼ l) ∷ t)
    counts : {g : ℕ} {l : List Field} {a b : Script} {r t : List Row} → Both n m a b → Rows r t → Rows ((g ⟼ l each a) ∷ r) ((g ⟼ l each b) ∷ t)

  both_opened : {r t : List Row} → Rows r t → (f : ℕ) → Both n m (opened r f) (opened t f)
  unfolding opened
  both_opened over f = both_none
  both_opened (flat {g} {l} t) f = two (eqb g f) (both_fields l (λ vs. both_none)) (both_opened t f)
  both_opened (counts {g} {l} h t) f = two (eqb g f) (both_fields l (λ vs. both_each (last_number vs) h)) (both_opened t f)

  both_flows : {a b : Script} → Both n m a b → Rows (flows mode a) (flows mode b)
  unfolding flows
  both_flows h = search (flat, counts, over) depth 200

  both_fixed : (t : List Fixed) → Rows (fixed_rows t) (fixed_rows t)
  both_fixed [] = over
  both_fixed (x ∷ t) = flat (both_fixed t)

-- ---- records, by the levels that are left

-- a record at depth d, by what its PDUs hold
abbrev record_of : Mode → ℕ → Script → Script
record_of mode d a = framed 2 d (opened (flows mode (pdu d a)))

both_record : (mode : Mode) (n m d e : ℕ) {a b : Script} → d ≤ n → e ≡ d → Both n m a b → Both n m (record_of mode d a) (record_of mode e b)
both_record mode n m d e {a} {b} l z h =
    subst (λ (c : ℕ). Both n m (record_of mode d a) (record_of mode c b)) (sym z) (both_framed mode n m 2 d (λ k. l) (both_opened mode n m (both_flows mode n m (both_pdu mode n m d h))))

-- which is too deep
too_deep : (mode : Mode) (n m d : ℕ) (a b : Script) → Both n n (record_of mode d a) (record_of mode d a) → m < d → Both n m (record_of mode d a) b
unfolding Is
too_deep mode n m d a b w l =
    record { says = λ o u f k h. ((w.says o u f k h).0, λ z. absurd (go o u f k h z)) }
  where
    go : (o : ℕ) (u : List ℕ) (f : Found) (k : ℕ) → Is (record_of mode d a) o u f k → Shallow m f.ranges → ⊥
    go o u f k (x, y, v, i, e, en, ix, (x', y', s, inner, rest, c, p, q, e', en', r, es, ia, (ey, ef, ej))) z =
        let t : d ≤ m = own_depth (subst (λ (g : Found). Shallow m g.ranges) ef z) refl in
        omega arith

none_left : (mode : Mode) (n m : ℕ) (b : Script) → Both n m (flow mode n zero) b
unfolding flow Is
none_left mode n m b = record { says = λ o u f k h. absurd h }

within_flow : (mode : Mode) (n left : ℕ) → Both n n (flow mode n left) (flow mode n left)
unfolding flow
within_flow mode n zero = none_left mode n n (flow mode n zero)
within_flow mode n (suc left) = both_record mode n n (n - left) (n - left) (omega arith) refl (within_flow mode n left)

-- a record at one depth: `left` of n levels, and `rest` of m
both_flow : (mode : Mode) (n m left rest : ℕ) → left ≤ n → rest ≤ m → n - left ≡ m - rest → Both n m (flow mode n left) (flow mode m rest)
unfolding flow
both_flow mode n m zero rest i j e = none_left mode n m (flow mode m rest)
both_flow mode n m (suc left) zero i j e = too_deep mode n m (n - left) (flow mode n left) (flow mode m zero) (within_flow mode n (suc left)) (omega arith)
both_flow mode n m (suc left) (suc rest) i j e = both_record mode n m (n - left) (m - rest) (omega arith) (omega arith) (both_flow mode n m left rest (omega arith) (omega arith) (omega arith))

-- ---- a datagram

both_sample : (mode : Mode) (n m : ℕ) → Both n m (sample mode n) (sample mode m)
unfolding samples
both_sample mode n m =
    let f : Both n m (flow mode n n) (flow mode m m) = both_flow mode n m n m (omega arith) (omega arith) (omega arith) in
    let c : Both n m counter counter = both_framed mode n m 3 1 (λ z. absurd (omega arith)) (both_opened mode n m (both_fixed mode n m counters)) in
    both_framed mode n m 1 0 (λ z. absurd (omega arith)) (both_opened mode n m (counts f (counts c (counts f (counts c (counts f over))))))

both_datagram : (mode : Mode) (n m : ℕ) → Both n m (datagram_to mode n) (datagram_to mode m)
unfolding Is datagram_to
both_datagram mode n m = record { says = λ o u f k h. (both_fields mode n m header (λ vs. samples_of o vs)).says o u f k h }
  where
    samples_of : (a : ℕ) (vs : List Value) → Both n m
        (repeat (last_number vs) (sample mode n) (λ r. here (λ e. give (record { values = vs; ranges = ranged 0 0 0 a (between a e) r.ranges }))))
        (repeat (last_number vs) (sample mode m) (λ r. here (λ e. give (record { values = vs; ranges = ranged 0 0 0 a (between a e) r.ranges }))))
    samples_of a vs = record {
      says = λ o u f k (x, y, b, i, j, e, en, many, (ey, ef, ej)).
          let r = both_many mode n m (both_sample mode n m) (last_number vs) _ _ _ _ many in
          (found_as mode n m ef (also (λ z. absurd (omega arith)) r.0 none), λ z. (x, y, b, i, j, e, en, r.1 (inner_shallow (as_found mode n m ef z)), (ey, ef, ej)));
    }

-- a reading with n levels has no record deeper than n
pub no_deeper : (mode : Mode) (n o : ℕ) (b : List ℕ) (f : Found) (k : ℕ) → Is (datagram_to mode n) o b f k → Shallow n f.ranges
no_deeper mode n o b f k h = ((both_datagram mode n n).says o b f k h).0

-- and if it has none deeper than m, it is a reading with m levels
pub same_reading : (mode : Mode) (n m o : ℕ) (b : List ℕ) (f : Found) (k : ℕ) → Is (datagram_to mode n) o b f k → Shallow m f.ranges → Is (datagram_to mode m) o b f k
same_reading mode n m o b f k h z = ((both_datagram mode n m).says o b f k h).1 z
