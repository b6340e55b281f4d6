-- The code of every answer is one of its call's. For one datagram and a run; `FieldsItemised` has field reading. Assumes nothing.
use Prim.Native.Nat.{ℕ, zero, suc, ◌≤◌}
use mathlib.Core.Path.{◌≡◌, refl}
use mathlib.Core.Bool.{true}
use mathlib.Core.List.{List, [], ◌∷◌}
use native.Mathlib.Omega.{arith}
use Rattle.reading.specs.Numbers.{known}
use Rattle.reading.specs.Script.{Span, Value, Found, Item, Script, give, refuse, here, item, within, repeat}
use Rattle.reading.specs.Layout.{Mode, num, Field, plain, mac, addr, list, segments, address_of, run_of, field, fields}
use Rattle.reading.specs.Values.{alone}
use Rattle.reading.specs.Answer.{one, run}
use Rattle.reading.proofs.Faults.{both, test_code, fair_item, fair_field, fair, Coded, gives, refuses, stands, reads, opens, repeats}
use Rattle.reading.proofs.Codes.{coded_datagram}
use Rattle.demands.specs.Codes.{one_codes, run_codes, field_codes}
use Rattle.demands.specs.Stops.{NoOpaque, no_length, too_long as above, cut, NoItem, no_word, no_tested, failed, no_long, no_int, no_block, no_part, no_string, Stops, barred, standing, no_item, not_text, past_item, no_opaque, inside_it, past_it, among, past_all}
use Rattle.demands.specs.Tries.{RunStops, this, later}
use Rattle.demands.proofs.Itemised.{by_code}
use Rattle.demands.proofs.Accepted.{one_reads}
use Rattle.demands.proofs.RunItemised.{run_reads}

-- ---- the code of a fault

-- the codes of a script are from 2 to m
data To (m : ℕ) : Script → Type 0 where
  to_give : {a : Found} → To m (give a)
  to_refuse : {c : ℕ} → 2 ≤ c → c ≤ m → To m (refuse c)
  to_here : {k : ℕ → Script} → ((n : ℕ) → To m (k n)) → To m (here k)
  to_item : {i : Item} {k : Value → Script} → fair_item i ≡ true → ((v : Value) → To m (k v)) → To m (item i k)
  to_within : {body : Script} {k : Span → Found → Script} → To m body → ((x : Span) (a : Found) → To m (k x a)) → To m (within body k)
  to_repeat : {n : ℕ} {body : Script} {k : Found → Script} → To m body → ((a : Found) → To m (k a)) → To m (repeat n body k)

opaque_code : {b : List ℕ} {c : ℕ} → NoOpaque b c → (2 ≤ c) × (c ≤ 7)
opaque_code (no_length l e) = (omega arith, omega arith)
opaque_code (above f l e) = (omega arith, omega arith)
opaque_code (cut f l m e) = (omega arith, omega arith)

item_code : {b : List ℕ} {c : ℕ} {i : Item} → fair_item i ≡ true → NoItem b c i → (2 ≤ c) × (c ≤ 7)
item_code h (no_word l e) = (omega arith, omega arith)
item_code h (no_tested l e) = (omega arith, omega arith)
item_code h (failed {c = d} f l e) = let k = test_code d h in (omega (arith, k.0), omega (arith, k.1))
item_code h (no_long l e) = (omega arith, omega arith)
item_code h (no_int l e) = (omega arith, omega arith)
item_code h (no_block l e) = (omega arith, omega arith)
item_code h (no_part n) = opaque_code n
item_code h (no_string n) = opaque_code n

fault_code : {m : ℕ} {sc : Script} {o c i n : ℕ} {b : List ℕ} → 7 ≤ m → To m sc → Stops sc o b c i n → (2 ≤ c) × (c ≤ m)
fault_code w to_give t = elim t [ ]
fault_code w (to_refuse y z) (barred e f g) = (omega arith, omega arith)
fault_code w (to_here h) (standing t) = fault_code w (h _) t
fault_code w (to_item y h) (no_item z e f) = let k = item_code y z in (k.0, omega (arith, k.1))
fault_code w (to_item y h) (not_text x j q l g z e f) = (omega arith, omega arith)
fault_code w (to_item y h) (past_item x z v j e f ix t) = fault_code w (h v) t
fault_code w (to_within y h) (no_opaque z e f) = let k = opaque_code z in (k.0, omega (arith, k.1))
fault_code w (to_within y h) (inside_it x j f q t) = fault_code w y t
fault_code w (to_within y h) (past_it x u z inner rest a j l e f q ex ib t) = fault_code w (h _ a) t
fault_code w (to_repeat y h) (among j x z a l k lt e f many t) = fault_code w y t
fault_code w (to_repeat y h) (past_all x z a j l e f many t) = fault_code w (h a) t

-- a datagram's are to 8
to_8 : {sc : Script} → Coded sc → To 8 sc
to_8 gives = to_give
to_8 (refuses z) = to_refuse z.0 z.1
to_8 (stands h) = to_here (λ n. to_8 (h n))
to_8 (reads f h) = to_item f (λ v. to_8 (h v))
to_8 (opens b h) = to_within (to_8 b) (λ x a. to_8 (h x a))
to_8 (repeats b h) = to_repeat (to_8 b) (λ a. to_8 (h a))

-- a layout's are to 7: it refuses by its items alone
address_to : {k : Value → Script} → ((v : Value) → To 7 (k v)) → (t : ℕ) → To 7 (address_of t k)
unfolding address_of
address_to h zero = h _
address_to h (suc zero) = to_item refl (λ b. h _)
address_to h (suc (suc t)) = to_item refl (λ b. h _)

run_to : {body : Script} {k : Value → Script} → To 7 body → ((v : Value) → To 7 (k v)) → To 7 (run_of body k)
unfolding run_of
run_to b h = to_item refl (λ n. to_here (λ at. to_repeat b (λ a. h _)))

field_to : {k : Value → Script} (f : Field) → fair_field f ≡ true → ((v : Value) → To 7 (k v)) → To 7 (field f k)
unfolding field
field_to (plain i) e h = to_item e h
field_to mac e h = to_item refl (λ b. h _)
field_to addr e h = to_item refl (λ t. address_to h (num t))
field_to list e h = run_to (to_item refl (λ v. to_give)) h
field_to segments e h = run_to (to_item refl (λ v. run_to (to_item refl (λ w. to_give)) (λ w. to_give))) h

fields_to : {k : List Value → Script} (l : List Field) → fair l ≡ true → ((vs : List Value) → To 7 (k vs)) → To 7 (fields l k)
unfolding fields
fields_to [] e h = h []
fields_to (f ∷ rest) e h = let b = both (fair_field f) (fair rest) e in field_to f b.0 (λ v. fields_to rest b.1 (λ vs. h (v ∷ vs)))

-- the code of a layout that stops
pub layout_code : {o c i n : ℕ} {b : List ℕ} (l : List Field) → fair l ≡ true → Stops (alone l) o b c i n → (2 ≤ c) × (c ≤ 7)
layout_code l e = fault_code (omega arith) (fields_to l e (λ vs. to_give))

-- of a run that is refused: not the one that ends it
run_fault_code : {mode : Mode} {s : List ℕ} {at c i n : ℕ} → RunStops mode s at c i n → (2 ≤ c) × (c ≤ 8) × (c ≡ 2 → ⊥)
run_fault_code {mode} (this h t z) = let k = fault_code (omega arith) (to_8 (coded_datagram mode)) t in (k.0, k.1, z)
run_fault_code (later f bytes items m d e t) = run_fault_code t

-- ---- the tables, by their numbers

each : (P : ℕ → Type 0) → P 0 → P 1 → P 2 → P 3 → P 4 → P 5 → P 6 → P 7 → P 8 → P 9 → P 10 → P 11 → (c : ℕ) → c ≤ 11 → P c
each P a b c d e f g h i j k l zero z = a
each P a b c d e f g h i j k l (suc zero) z = b
each P a b c d e f g h i j k l (suc (suc zero)) z = c
each P a b c d e f g h i j k l (suc (suc (suc zero))) z = d
each P a b c d e f g h i j k l (suc (suc (suc (suc zero)))) z = e
each P a b c d e f g h i j k l (suc (suc (suc (suc (suc zero))))) z = f
each P a b c d e f g h i j k l (suc (suc (suc (suc (suc (suc zero)))))) z = g
each P a b c d e f g h i j k l (suc (suc (suc (suc (suc (suc (suc zero))))))) z = h
each P a b c d e f g h i j k l (suc (suc (suc (suc (suc (suc (suc (suc zero)))))))) z = i
each P a b c d e f g h i j k l (suc (suc (suc (suc (suc (suc (suc (suc (suc zero))))))))) z = j
each P a b c d e f g h i j k l (suc (suc (suc (suc (suc (suc (suc (suc (suc (suc zero)))))))))) z = k
each P a b c d e f g h i j k l (suc (suc (suc (suc (suc (suc (suc (suc (suc (suc (suc zero))))))))))) z = l
each P a b c d e f g h i j k l (suc (suc (suc (suc (suc (suc (suc (suc (suc (suc (suc (suc n)))))))))))) z = absurd (omega arith)

of_one : (c : ℕ) → c ≤ 9 → known one_codes c ≡ true
unfolding known
of_one c h =
    each (λ n. n ≤ 9 → known one_codes n ≡ true)
    (λ _. refl) (λ _. refl) (λ _. refl) (λ _. refl) (λ _. refl) (λ _. refl) (λ _. refl) (λ _. refl) (λ _. refl) (λ _. refl) (λ z. absurd (omega arith)) (λ z. absurd (omega arith)) c (omega arith) h

of_run : (c : ℕ) → c ≤ 9 → (c ≡ 2 → ⊥) → known run_codes c ≡ true
unfolding known
of_run c h k =
    each (λ n. n ≤ 9 → (n ≡ 2 → ⊥) → known run_codes n ≡ true)
    (λ _ _. refl) (λ _ _. refl) (λ _ z. absurd (z refl)) (λ _ _. refl) (λ _ _. refl) (λ _ _. refl) (λ _ _. refl) (λ _ _. refl) (λ _ _. refl) (λ _ _. refl) (λ z _. absurd (omega arith)) (λ z _. absurd (omega arith))
    c (omega arith) h k

pub of_fields : (c : ℕ) → c ≤ 11 → (c ≡ 8 → ⊥) → (c ≡ 9 → ⊥) → known field_codes c ≡ true
unfolding known
of_fields c h k l =
    each (λ n. (n ≡ 8 → ⊥) → (n ≡ 9 → ⊥) → known field_codes n ≡ true)
    (λ _ _. refl) (λ _ _. refl) (λ _ _. refl) (λ _ _. refl) (λ _ _. refl) (λ _ _. refl) (λ _ _. refl) (λ _ _. refl) (λ z _. absurd (z refl)) (λ _ z. absurd (z refl)) (λ _ _. refl) (λ _ _. refl) c h k l

-- ---- the calls

pub one_coded : (mode : Mode) (s w : List ℕ) → known one_codes (one mode s w).code ≡ true
unfolding known
one_coded mode s w = by_code (one_reads mode) (λ c. known one_codes c ≡ true) s w refl refl refl (λ c i n t. let k = fault_code {m = 8} (omega arith) (to_8 (coded_datagram mode)) t in of_one c (omega (arith, k.1)))

pub run_coded : (mode : Mode) (s w : List ℕ) → known run_codes (run mode s w).code ≡ true
unfolding known
run_coded mode s w = by_code (run_reads mode) (λ c. known run_codes c ≡ true) s w refl refl refl (λ c i n t. let k = run_fault_code t in of_run c (omega (arith, k.1)) k.2)
