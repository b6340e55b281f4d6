-- Demand 2, of field reading: for each descriptor of an accepted input whose kind and format are read here, field reading answers the values that
-- the grammar reads at the start of the descriptor's range; and with these values the grammar reads, behind them, what the whole reading has inside
-- that range. For one datagram, and for a run. Assumes nothing.
use Prim.Native.Nat.{ℕ, zero, suc, ◌+◌, ◌-◌, ◌≤◌}
use mathlib.Core.Path.{◌≡◌, refl, sym, ap, ◌∙◌, subst}
use mathlib.Core.Bool.{Bool, true, false, cond}
use mathlib.Core.List.{List, [], ◌∷◌, ◌++◌, map}
use native.Mathlib.Omega.{arith}
use native.Mathlib.Nat.{zero-add}
use borrow.Author.Tests.{eqb-true, eqb-false}
use lib.Dec.{eqb}
use lib.ListN.{length, drop}
use lib.Seq.{length-take-le}
use Rattle.reading.specs.Utf8.{◌or◌}
use Rattle.reading.specs.Numbers.{known}
use Rattle.reading.specs.Script.{Value, Range, Forest, Found, nothing, Script, give}
use Rattle.reading.specs.Cursor.{Place, got, follow}
use Rattle.reading.specs.Grammar.{Is}
use Rattle.reading.specs.Layout.{Mode, memo, Row, fixed_rows, pdu, flows, flow, counters, samples, datagram}
use Rattle.reading.specs.Sizes.{longest_input, depth_limit}
use Rattle.reading.specs.Values.{alone}
use Rattle.reading.specs.Answer.{from, nobody, rows, datagrams, layout_of}
use Rattle.reading.proofs.Stands.{place, drop_take}
use Rattle.reading.proofs.Fields.{fields_then}
use Rattle.reading.proofs.Sound.{sound}
use Rattle.reading.proofs.SoundRows.{Read}
use Rattle.reading.proofs.Holding.{has_row, more_at, read_here, behind as script_behind, up_to}
use Rattle.reading.proofs.Descriptors.{Among, this, inside, later, gave, ReadAs, descriptor, stands_in, field_reading_accepts, run_reading_accepts}
use Rattle.demands.specs.FieldsItemised.{only_values}
use Rattle.demands.specs.DescriptorFields.{range, has_fields, more_of, follows, StandsIn, this as here_it, inside as in_it, later as behind_it, FieldsAre, AllFields}
use Rattle.demands.proofs.Pieces.{behind}

-- ---- what is meant is what is proved

pub range_is : (w : List ℕ) (i : ℕ) → descriptor w i ≡ range w i
unfolding descriptor range
range_is w i = refl

-- a row of a format, by the list of them
has_known : (rows : List Row) (f : ℕ) → known (map (λ (r : Row). r.format) rows) f ≡ has_row rows f
unfolding known
has_known [] f = refl
has_known (r ∷ rest) f = go (has_known rest f) (eqb r.format f) (eqb f r.format) refl refl
  where
    go : known (map (λ (r : Row). r.format) rest) f ≡ has_row rest f → (b c : Bool) → eqb r.format f ≡ b → eqb f r.format ≡ c
        → (c or known (map (λ (r : Row). r.format) rest) f) ≡ cond b true (has_row rest f)
    go again true true x y = refl
    go again false false x y = again
    go again true false x y = absurd (eqb-false f r.format y (sym (eqb-true r.format f x)))
    go again false true x y = absurd (eqb-false r.format f x (sym (eqb-true f r.format y)))

pub has_fields_is : (kind format : ℕ) → has_fields kind format ≡ read_here kind format
unfolding has_fields read_here known samples flows counters
has_fields_is zero f = go (eqb f 0)
  where
    go : (b : Bool) → (b or false) ≡ b
    go true = refl
    go false = refl
has_fields_is (suc zero) f = has_known (samples memo depth_limit) f
has_fields_is (suc (suc zero)) f = has_known (flows memo (give nothing)) f
has_fields_is (suc (suc (suc zero))) f = has_known (fixed_rows counters) f
has_fields_is (suc (suc (suc (suc k)))) f = refl

more_is : (rows : List Row) (f : ℕ) → more_at rows f ≡ more_of rows f
more_is [] f = refl
more_is (r ∷ rest) f = ap (λ (m : List Value → Script). cond (eqb r.format f) r.more m) (more_is rest f)

follows_is : (mode : Mode) (kind format depth : ℕ) (vs : List Value) → script_behind mode kind format depth vs ≡ follows mode kind format depth vs
unfolding script_behind follows
follows_is mode zero f d vs = refl
follows_is mode (suc zero) f d vs = ap (λ (m : List Value → Script). m vs) (more_is (samples mode depth_limit) f)
follows_is mode (suc (suc zero)) f d vs = ap (λ (m : List Value → Script). m vs) (more_is (flows mode (pdu d (flow mode depth_limit (depth_limit - d)))) f)
follows_is mode (suc (suc (suc zero))) f d vs = ap (λ (m : List Value → Script). m vs) (more_is (fixed_rows counters) f)
follows_is mode (suc (suc (suc (suc k)))) f d vs = refl

among_stands : {r : Range} {inner g : Forest} → Among r inner g → StandsIn r inner g
among_stands this = here_it
among_stands (inside m) = in_it (among_stands m)
among_stands (later m) = behind_it (among_stands m)

module _ (mode : Mode) (s : List ℕ) (g : Forest) (r : Range) where
  abbrev own : Script
  own = alone (layout_of mode r.kind r.format)

  fields_from : {inner : Forest} → Among r inner g → (a : ReadAs mode s r inner)
      → Read (Is own) (up_to s r) (from r.span.start) (only_values a.values) a.holds.next
      → Read (Is (script_behind mode r.kind r.format r.depth a.values)) (up_to s r) a.holds.next a.holds.found a.holds.last → FieldsAre mode s g r
  fields_from {inner} m a f t =
      let x = r.span.start in
      let z : a.holds.next ≡ place (x + length f.read) f.items = λ i. record { at = f.at i; steps = (f.steps ∙ zero-add f.items) i } in
      let y : f.rest ≡ t.read ++ t.rest = sym (behind x f.stands) ∙ ap (λ (j : ℕ). drop j (up_to s r)) (sym f.at) ∙ t.stands.there in
      record {
        inner = inner;
        stands = among_stands m;
        values = a.values;
        bytes = length f.read;
        items = f.items;
        reading = record { read = f.read; rest = f.rest; joined = sym (drop_take x r.span.count s) ∙ f.stands.there; long = refl; is = f.is };
        answer = a.answer ∙ ap (gave a.values) z;
        next = t.read;
        rest = t.rest;
        joined = y;
        found = a.holds.found;
        more = t.items;
        holds =
            subst (λ (c : Script). Is c (x + length f.read) t.read a.holds.found t.items) (follows_is mode r.kind r.format r.depth a.values)
            (subst (λ (j : ℕ). Is (script_behind mode r.kind r.format r.depth a.values) j t.read a.holds.found t.items) f.at t.is);
        ranges = a.holds.ranges;
      }

  fields_are : {inner : Forest} → Among r inner g → ReadAs mode s r inner → FieldsAre mode s g r
  unfolding follow
  fields_are m a =
      let x = r.span.start in
      let l : length (up_to s r) ≡ x + r.span.count = length-take-le (x + r.span.count) s a.holds.fields.lies in
      let e : follow own (up_to s r) (from x) ≡ got (only_values a.values) a.holds.next = fields_then (layout_of mode r.kind r.format) _ (up_to s r) (from x) ∙ rw a.holds.fields.reads in
      let f = sound own (up_to s r) (from x) (only_values a.values) a.holds.next (omega (arith, l)) e in
      fields_from m a f
      (sound (script_behind mode r.kind r.format r.depth a.values) (up_to s r) a.holds.next a.holds.found a.holds.last (rw f.at f.stands.fits) a.holds.rest)

-- each descriptor of a store in which the rows of g stand, if it has fields
each : (mode : Mode) (s : List ℕ) (g : Forest) (rest : List ℕ) → ((r : Range) (inner : Forest) → Among r inner g → read_here r.kind r.format ≡ true → ReadAs mode s r inner) → AllFields mode s g (rows 0 nobody g ++ rest)
each mode s g rest h i l k =
    let w = rows 0 nobody g ++ rest in
    let m = stands_in g 0 nobody i rest l in
    subst (FieldsAre mode s g) (range_is w i)
    (fields_are mode s g (descriptor w i) m.1 (h (descriptor w i) m.0 m.1 (ap (λ (r : Range). read_here r.kind r.format) (range_is w i) ∙ sym (has_fields_is (range w i).kind (range w i).format) ∙ k)))

module _ (mode : Mode) (s : List ℕ) (short : length s ≤ longest_input) (a : Found) (q : Place) (rest : List ℕ) where
  pub datagram_fields : follow (datagram mode) s (from 0) ≡ got a q → AllFields mode s a.ranges (rows 0 nobody a.ranges ++ rest)
  datagram_fields e = each mode s a.ranges rest (λ r inner. field_reading_accepts mode s short e)

  pub run_fields : (fuel : ℕ) → datagrams mode fuel s (from 0) ≡ got a q → AllFields mode s a.ranges (rows 0 nobody a.ranges ++ rest)
  run_fields fuel e = each mode s a.ranges rest (λ r inner. run_reading_accepts mode s short fuel e)
