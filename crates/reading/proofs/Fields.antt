-- A layout read field by field: what it gives is what its fields give, one after another. Assumes nothing.
use Prim.Native.Nat.{ℕ, zero, suc}
use mathlib.Core.Path.{◌≡◌, refl, sym, ap, ◌∙◌}
use mathlib.Core.List.{List, [], ◌∷◌, ◌++◌}
use lib.Dec.{leb}
use lib.ListN.{replicate, take}
use Rattle.reading.specs.Script.{four, eight, sixteen, Value, octets, address, part, bare, Found, word, tested, block, Script}
use Rattle.reading.specs.Cursor.{Place, Out, got, stop, Reader, then, read_item, times, follow}
use Rattle.reading.specs.Layout.{num, oct, Field, plain, mac, addr, list, segments, address_of, any_word, segment, run_of, field, fields}
use Rattle.reading.specs.Values.{zeros, alone, Reading, valued, reading}
use Rattle.reading.proofs.Items.{never}

pub then_then : {A B C : Type 0} (o : Out A) (f : A → Place → Out B) (g : B → Place → Out C) → then (then o f) g ≡ then o (λ a q. then (f a q) g)
then_then (got a p) f g = refl
then_then (stop c a n) f g = refl

pub then_same : {A B : Type 0} (o : Out A) (f g : A → Place → Out B) → ((a : A) (q : Place) → f a q ≡ g a q) → then o f ≡ then o g
then_same (got a p) f g h = h a p
then_same (stop c a n) f g h = refl

-- ---- one field

-- what follows an address's type word
unfoldable pub address_out : ℕ → Reader Value
address_out zero s p = got (address 0 (replicate 16 0)) p
address_out (suc zero) s p = then (read_item (block four) s p) (λ b q. got (address 1 (oct b ++ replicate 12 0)) q)
address_out (suc (suc t)) s p = then (read_item (block sixteen) s p) (λ b q. got (address 2 (oct b)) q)

-- a count word and that many of `body`
unfoldable pub run_out : Script → Reader Value
run_out body s p = then (read_item word s p) (λ n q. then (times (num n) (follow body) s q) (λ a e. got (part (record { start = q.at; count = num n })) e))

unfoldable pub field_out : Field → Reader Value
field_out (plain i) s p = read_item i s p
field_out mac s p = then (read_item (block eight) s p) (λ b q. got (octets (take 6 (oct b))) q)
field_out addr s p = then (read_item (tested (λ t. leb t 2) 4) s p) (λ t q. address_out (num t) s q)
field_out list s p = run_out any_word s p
field_out segments s p = run_out segment s p

module _ (s : List ℕ) (k : Value → Script) where
  on_value : Value → Place → Out Found
  on_value v q = follow (k v) s q

  address_then : (t : ℕ) (p : Place) → follow (address_of t k) s p ≡ then (address_out t s p) on_value
  unfolding follow address_of address_out on_value
  address_then zero p = refl
  address_then (suc zero) p = sym (then_then (read_item (block four) s p) _ _)
  address_then (suc (suc t)) p = sym (then_then (read_item (block sixteen) s p) _ _)

  run_then : (body : Script) (p : Place) → follow (run_of body k) s p ≡ then (run_out body s p) on_value
  unfolding follow run_of run_out on_value
  run_then body p =
      then_same (read_item word s p) _ _ (λ n q. sym (then_then (times (num n) (follow body) s q) _ on_value))
      ∙ sym (then_then (read_item word s p) _ on_value)

  field_then : (f : Field) (p : Place) → follow (field f k) s p ≡ then (field_out f s p) on_value
  unfolding follow field field_out on_value
  field_then (plain i) p = refl
  field_then mac p = sym (then_then (read_item (block eight) s p) _ on_value)
  field_then addr p =
      then_same (read_item (tested (λ t. leb t 2) 4) s p) _ _ (λ t q. address_then (num t) q)
      ∙ sym (then_then (read_item (tested (λ t. leb t 2) 4) s p) _ on_value)
  field_then list p = run_then any_word p
  field_then segments p = run_then segment p

-- ---- a row of fields

unfoldable pub fields_out : List Field → Reader (List Value)
fields_out [] s p = got [] p
fields_out (f ∷ rest) s p = then (field_out f s p) (λ v q. then (fields_out rest s q) (λ vs e. got (v ∷ vs) e))

pub fields_then : (l : List Field) (k : List Value → Script) (s : List ℕ) (p : Place) → follow (fields l k) s p ≡ then (fields_out l s p) (λ vs q. follow (k vs) s q)
unfolding fields fields_out on_value
fields_then [] k s p = refl
fields_then (f ∷ rest) k s p =
    field_then s _ f p
    ∙ then_same (field_out f s p) _ _ (λ v q. fields_then rest (λ vs. k (v ∷ vs)) s q ∙ sym (then_then (fields_out rest s q) _ _))
    ∙ sym (then_then (field_out f s p) _ _)

-- two rows in a row
pub fields_append : (l m : List Field) (s : List ℕ) (p : Place) → fields_out (l ++ m) s p ≡ then (fields_out l s p) (λ vs q. then (fields_out m s q) (λ ws e. got (vs ++ ws) e))
unfolding fields_out
fields_append [] m s p = sym (whole (fields_out m s p))
  where
    whole : (o : Out (List Value)) → then o (λ ws e. got ws e) ≡ o
    whole (got ws e) = refl
    whole (stop c a n) = refl
fields_append (f ∷ rest) m s p =
    then_same (field_out f s p) _ _ (λ v q.
    ap (λ (o : Out (List Value)). then o (λ vs e. got (v ∷ vs) e)) (fields_append rest m s q)
    ∙ then_then (fields_out rest s q) _ _
    ∙ then_same (fields_out rest s q) _ _ (λ vs e. then_then (fields_out m s e) _ _)
    ∙ sym (then_then (fields_out rest s q) _ _))
    ∙ sym (then_then (field_out f s p) _ _)

module _ (l m : List Field) (s : List ℕ) (p : Place) where
  pub row_halts : {c a n : ℕ} → fields_out l s p ≡ stop c a n → fields_out (l ++ m) s p ≡ stop c a n
  row_halts e = fields_append l m s p ∙ rw e

  pub row_goes : {vs : List Value} {q : Place} → fields_out l s p ≡ got vs q → fields_out (l ++ m) s p ≡ then (fields_out m s q) (λ ws e. got (vs ++ ws) e)
  row_goes e = fields_append l m s p ∙ rw e

  pub rows_halt : {vs : List Value} {q : Place} {c a n : ℕ} → fields_out l s p ≡ got vs q → fields_out m s q ≡ stop c a n → fields_out (l ++ m) s p ≡ stop c a n
  rows_halt e f = row_goes e ∙ rw f

  pub rows_give : {vs ws : List Value} {q r : Place} → fields_out l s p ≡ got vs q → fields_out m s q ≡ got ws r → fields_out (l ++ m) s p ≡ got (vs ++ ws) r
  rows_give e f = row_goes e ∙ rw f

-- a row of one field
module _ (f : Field) (s : List ℕ) (p : Place) where
  pub sole_gives : {v : Value} {q : Place} → field_out f s p ≡ got v q → fields_out (f ∷ []) s p ≡ got (v ∷ []) q
  unfolding fields_out
  sole_gives e = rw e

  pub sole_halts : {c a n : ℕ} → field_out f s p ≡ stop c a n → fields_out (f ∷ []) s p ≡ stop c a n
  unfolding fields_out
  sole_halts e = rw e

  pub sole_gave : {v : Value} {q : Place} → fields_out (f ∷ []) s p ≡ got (v ∷ []) q → field_out f s p ≡ got v q
  unfolding fields_out
  sole_gave {v} {q} e = go (field_out f s p) e
    where
      go : (o : Out Value) → then o (λ x r. then (got [] r) (λ vs i. got (x ∷ vs) i)) ≡ got (v ∷ []) q → o ≡ got v q
      go (got x r) h = cc
      go (stop c a n) h = never h

  pub sole_halted : {c a n : ℕ} → fields_out (f ∷ []) s p ≡ stop c a n → field_out f s p ≡ stop c a n
  unfolding fields_out
  sole_halted {c} {a} {n} e = go (field_out f s p) e
    where
      go : (o : Out Value) → then o (λ x r. then (got [] r) (λ vs i. got (x ∷ vs) i)) ≡ stop c a n → o ≡ stop c a n
      go (got x r) h = never (sym h)
      go (stop c' a' n') h = cc

-- ---- read alone

abbrev pub values : List Value → Found
values vs = record { values = vs; ranges = bare }

module _ (l : List Field) (s : List ℕ) (p : Place) where
  alone_is : follow (alone l) s p ≡ then (fields_out l s p) (λ vs q. got (values vs) q)
  unfolding follow
  alone_is = fields_then l _ s p

  pub reads_shown : {vs : List Value} {q : Place} → fields_out l s p ≡ got vs q → record { out = got (values vs) q; values = vs } ≡ reading l s p
  unfolding reading valued
  reads_shown e = sym (rw (alone_is, e))

  pub halts_shown : {c a n : ℕ} → fields_out l s p ≡ stop c a n → record { out = stop c a n; values = zeros l } ≡ reading l s p
  unfolding reading valued
  halts_shown e = sym (rw (alone_is, e))

  pub alone_halts : {c a n : ℕ} → fields_out l s p ≡ stop c a n → follow (alone l) s p ≡ stop c a n
  alone_halts e = alone_is ∙ rw e

  pub shown_reads : {vs ws : List Value} {q : Place} → record { out = got (values vs) q; values = ws } ≡ reading l s p → fields_out l s p ≡ got vs q
  unfolding reading valued
  shown_reads {vs} {ws} {q} h = go (fields_out l s p) (h ∙ rw alone_is)
    where
      go : (o : Out (List Value)) → record { out = got (values vs) q; values = ws } ≡ valued l (then o (λ us r. got (values us) r)) → o ≡ got vs q
      go (got us r) e = let k : got (values vs) q ≡ got (values us) r = ap (λ (t : Reading). t.out) e in cc
      go (stop c a n) e = never (sym (ap (λ (t : Reading). t.out) e))

  pub shown_halts : {ws : List Value} {c a n : ℕ} → record { out = stop c a n; values = ws } ≡ reading l s p → fields_out l s p ≡ stop c a n
  unfolding reading valued
  shown_halts {ws} {c} {a} {n} h = go (fields_out l s p) (h ∙ rw alone_is)
    where
      go : (o : Out (List Value)) → record { out = stop c a n; values = ws } ≡ valued l (then o (λ us r. got (values us) r)) → o ≡ stop c a n
      go (got us r) e = never (ap (λ (t : Reading). t.out) e)
      go (stop c' a' n') e = let k : ◌≡◌ {A = Out Found} (stop c a n) (stop c' a' n') = ap (λ (t : Reading). t.out) e in cc
