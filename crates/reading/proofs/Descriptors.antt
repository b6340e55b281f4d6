-- Field reading accepts each descriptor of an accepted datagram, or run, whose kind and format are read here, and gives the fields of that reading.
-- Assumes nothing.
use Prim.Native.Nat.{ℕ, zero, suc, ◌+◌, ◌*◌, ◌-◌, ◌≤◌, ◌<◌}
use mathlib.Core.Path.{◌≡◌, refl, sym, ap, ◌∙◌}
use mathlib.Core.Bool.{Bool, true, false, cond}
use mathlib.Core.List.{List, ◌++◌, append_assoc}
use native.Mathlib.Omega.{arith}
use borrow.Author.Tests.{le-leb, eq-eqb, leb-true, leb-false}
use lib.Dec.{leb}
use lib.ListN.{length, get_or, take, drop}
use lib.Seq.{get_or-append-add}
use Rattle.reading.specs.Script.{Value, Range, Forest, bare, tree, Found}
use Rattle.reading.specs.Cursor.{Place, Out, got, stop, follow}
use Rattle.reading.specs.Layout.{Mode, between, datagram}
use Rattle.reading.specs.Answer.{limited, from, nobody, size, row_of, rows, room, Header, header_of, no_header, Answer, refused, stored, one, datagrams, run, layout_of, Fields, answered, read}
use Rattle.reading.specs.Sizes.{longest_input, descriptor_words}
use Rattle.reading.proofs.Fields.{reads_shown}
use Rattle.reading.proofs.Items.{either}
use Rattle.reading.proofs.Codes.{datagram_coded, run_coded}
use Rattle.reading.proofs.Stored.{rows_length}
use Rattle.reading.proofs.Holding.{read_here, FieldsOf, Holds, Readable, none, also}
use Rattle.reading.proofs.Readable.{datagram_of, accepted_readable, run_readable}

-- a range stands in a forest, with `inner` inside it
pub data Among (r : Range) (inner : Forest) : Forest → Type 0 where
  this : {after : Forest} → Among r inner (tree r inner after)
  inside : {o : Range} {within after : Forest} → Among r inner within → Among r inner (tree o within after)
  later : {o : Range} {within after : Forest} → Among r inner after → Among r inner (tree o within after)

of_each : {mode : Mode} {s : List ℕ} {r : Range} {inner f : Forest} → Readable mode s f → Among r inner f → read_here r.kind r.format ≡ true → (vs : List Value) × Holds mode s r vs inner
of_each none m k = elim m [ ]
of_each (also h i j) this k = h k
of_each (also h i j) (inside m) k = of_each i m k
of_each (also h i j) (later m) k = of_each j m k

-- field reading of a range, asked for its own kind and format
abbrev pub read_range : Mode → List ℕ → Range → Fields
read_range mode s r = read mode r.kind r.format s r.kind r.format r.span.start r.span.count

abbrev pub gave : List Value → Place → Fields
gave vs q = record { code = 0; at = q.at; steps = q.steps; values = vs }

fields_read : (mode : Mode) (s : List ℕ) (r : Range) {vs : List Value} {q : Place} → length s ≤ longest_input → FieldsOf mode s r vs q → read_range mode s r ≡ gave vs q
unfolding read answered
fields_read mode s r h f =
    rw (le-leb (length s) longest_input h, le-leb (r.span.start + r.span.count) (length s) f.lies, eq-eqb r.kind r.kind refl, eq-eqb r.format r.format refl)
    (ap answered (sym (reads_shown (layout_of mode r.kind r.format) (take (r.span.start + r.span.count) s) (from r.span.start) f.reads)))

-- what field reading gives of a range: the fields of the reading that has `inner` inside the range
pub record ReadAs (mode : Mode) (s : List ℕ) (r : Range) (inner : Forest) : Type 0 where
  pub values : List Value
  pub holds : Holds mode s r values inner
  pub answer : read_range mode s r ≡ gave values holds.next

module _ (mode : Mode) (s : List ℕ) (short : length s ≤ longest_input) where
  reads_each : {r : Range} {inner f : Forest} → Readable mode s f → Among r inner f → read_here r.kind r.format ≡ true → ReadAs mode s r inner
  reads_each {r} h m k = let v = of_each h m k in record { values = v.0; holds = v.1; answer = fields_read mode s r short v.1.fields }

  module _ {a : Found} {q : Place} where
    -- a range anywhere in the datagram
    pub field_reading_accepts : follow (datagram mode) s (from 0) ≡ got a q → {r : Range} {inner : Forest}
        → Among r inner a.ranges → read_here r.kind r.format ≡ true → ReadAs mode s r inner
    field_reading_accepts e = reads_each (accepted_readable mode s (from 0) (omega arith) e)

    -- the datagram's own: the values of its header
    pub header_reading_accepts : follow (datagram mode) s (from 0) ≡ got a q → (p : Place)
        × (read_range mode s (record { kind = 0; format = 0; span = between 0 q.at; depth = 0; first = 0 }) ≡ gave a.values p)
    header_reading_accepts e =
        let d = datagram_of mode s (from 0) (omega arith) e in
        (d.holds.next, fields_read mode s (record { kind = 0; format = 0; span = between 0 q.at; depth = 0; first = 0 }) short d.holds.fields)

    -- a range anywhere in a run
    pub run_reading_accepts : (fuel : ℕ) → datagrams mode fuel s (from 0) ≡ got a q → {r : Range} {inner : Forest}
        → Among r inner a.ranges → read_here r.kind r.format ≡ true → ReadAs mode s r inner
    run_reading_accepts fuel e = reads_each (run_readable mode fuel s (from 0) (omega arith) e)

-- ---- as it stands in the store

-- a word of the descriptor with this index, and that descriptor, but for its parent
abbrev pub entry : (store : List ℕ) → (index word : ℕ) → ℕ
entry w i k = get_or w (descriptor_words * i + k) 0

unfoldable pub descriptor : (store : List ℕ) → (index : ℕ) → Range
descriptor w i = record { kind = entry w i 0; format = entry w i 1; span = record { start = entry w i 2; count = entry w i 3 }; depth = entry w i 5; first = entry w i 6 }

-- past other descriptors, and past the first
pub entry_past : (l m : List ℕ) (n i : ℕ) → length l ≡ descriptor_words * n → n ≤ i → (k : ℕ) → entry (l ++ m) i k ≡ entry m (i - n) k
entry_past l m n i e h k = ap (λ (j : ℕ). get_or (l ++ m) j 0) {x = descriptor_words * i + k} {y = length l + (descriptor_words * (i - n) + k)} (omega arith) ∙ get_or-append-add l m (descriptor_words * (i - n) + k) 0

pub entry_past_one : (p : ℕ) (r : Range) (i : ℕ) (l : List ℕ) (k : ℕ) → entry (row_of p r ++ l) (suc i) k ≡ entry l i k
entry_past_one p r i l k = entry_past (row_of p r) l 1 (suc i) refl (omega arith) k ∙ ap (λ (j : ℕ). entry l j k) {x = suc i - 1} {y = i} (omega arith)

same : (v w : List ℕ) (i j : ℕ) → ((k : ℕ) → entry v i k ≡ entry w j k) → descriptor v i ≡ descriptor w j
unfolding descriptor
same v w i j e = λ t. record { kind = e 0 t; format = e 1 t; span = record { start = e 2 t; count = e 3 t }; depth = e 5 t; first = e 6 t }

-- each descriptor is a range, whatever stands behind them
pub stands_in : (f : Forest) (j p i : ℕ) (rest : List ℕ) → i < size f → (inner : Forest) × Among (descriptor (rows j p f ++ rest) i) inner f
unfolding rows size descriptor
stands_in bare j p i rest h = absurd (omega arith)
stands_in (tree r a b) j p zero rest h = (a, this)
stands_in (tree r a b) j p (suc i) rest h =
    let x = rows (j + 1) j a in
    let y = rows (j + 1 + size a) p b ++ rest in
    let z = (x ++ rows (j + 1 + size a) p b) ++ rest in
    go (stands_in a (j + 1) j i y) (stands_in b (j + 1 + size a) p (i - size a) rest)
    (same (rows j p (tree r a b) ++ rest) z (suc i) i (entry_past_one p r i z)
    ∙ ap (λ (l : List ℕ). descriptor l i) (append_assoc x (rows (j + 1 + size a) p b) rest))
    (λ l. same (x ++ y) y i (i - size a) (entry_past x y (size a) i (rows_length (j + 1) j a) l)) (leb (size a) i) refl
  where
    go : {d u v : Range} → (i < size a → (inner : Forest) × Among u inner a) → (i - size a < size b → (inner : Forest) × Among v inner b)
        → d ≡ u → (size a ≤ i → u ≡ v) → (t : Bool) → leb (size a) i ≡ t → (inner : Forest) × Among d inner (tree r a b)
    go f g e k false t = let m = f (omega (arith, leb-false)) in (m.0, rw e (inside m.1))
    go f g e k true t = let m = g (omega (arith, leb-true)) in (m.0, rw (e ∙ k (leb-true (size a) i t)) (later m.1))

-- where an answer has code 0, each descriptor in its store that is read here is read
abbrev pub StoredRead : Mode → List ℕ → Answer → Type 0
StoredRead mode s a =
    a.code ≡ 0 → (i : ℕ) → i < a.needed → read_here (descriptor a.store i).kind (descriptor a.store i).format ≡ true
    → (inner : Forest) × ReadAs mode s (descriptor a.store i) inner

module _ (mode : Mode) (s w : List ℕ) where
  stored_reads : (head : List Value → Header) (o : Out Found) → length s ≤ longest_input → ((c a n : ℕ) → o ≡ stop c a n → c ≡ 0 → ⊥)
      → ((a : Found) (q : Place) → o ≡ got a q → Readable mode s a.ranges) → StoredRead mode s (stored head o w)
  unfolding stored
  stored_reads head (got a q) short coded readable =
      either (StoredRead mode s) (leb (size a.ranges) (room w))
      (λ z i l k. let m = stands_in a.ranges 0 nobody i (drop (descriptor_words * size a.ranges) w) l in (m.0, reads_each mode s short (readable a q refl) m.1 k))
      (λ z. absurd (omega arith))
  stored_reads head (stop c a n) short coded readable = λ z. absurd (coded c a n refl z)

  within_limit : (x : Answer) → (length s ≤ longest_input → StoredRead mode s x) → StoredRead mode s (limited s x (refused 1 0 0 0 w))
  within_limit x h = go (leb (length s) longest_input) refl
    where
      go : (b : Bool) → leb (length s) longest_input ≡ b → StoredRead mode s (cond b x (refused 1 0 0 0 w))
      go true e = h (leb-true (length s) longest_input e)
      go false e = λ z. absurd (omega arith)

  pub stored_reading_accepts : StoredRead mode s (one mode s w)
  unfolding one
  stored_reading_accepts = within_limit _ (λ h.
      stored_reads header_of (follow (datagram mode) s (from 0)) h (λ c a n. datagram_coded mode s (from 0)) (λ a q. accepted_readable mode s (from 0) (omega arith)))

  pub stored_run_reading_accepts : StoredRead mode s (run mode s w)
  unfolding run
  stored_run_reading_accepts = within_limit _ (λ h.
      stored_reads (λ _. no_header) (datagrams mode (length s) s (from 0)) h (λ c a n. run_coded mode (length s) s (from 0)) (λ a q. run_readable mode (length s) s (from 0) (omega arith)))
