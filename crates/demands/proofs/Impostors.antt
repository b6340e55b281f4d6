-- The impostors (docs/RULES.md, R14.4): each falls to the demand that is named for it, at an input that is written out, its reading computed; and three of
-- them meet the others. Assumes nothing.
use Prim.Native.Nat.{ℕ, ◌*◌, ◌/◌, ◌%◌, ◌≤◌, ◌<◌}
use mathlib.Core.Path.{◌≡◌, refl, sym, ap, ◌∙◌}
use mathlib.Core.List.{List, [], ◌∷◌, ◌++◌}
use native.Mathlib.Omega.{arith}
use lib.ListN.{length, get_or, replicate}
use Rattle.reading.specs.Bytes.{be4}
use Rattle.reading.specs.Numbers.{known, header_protocols}
use Rattle.reading.specs.Cursor.{read_item, follow}
use Rattle.reading.specs.Layout.{Mode, address_of, run_of, field, fields, last_number, opened, flows, flow, samples, datagram_to}
use Rattle.reading.specs.Answer.{size, rows, header_of, no_header, Answer, stored, one, tried, datagrams, run}
use Rattle.reading.specs.Sizes.{descriptor_words}
use Rattle.demands.specs.Itemised.{Subject, a_datagram, a_run, Accepted}
use Rattle.demands.specs.Calls.{Call}
use Rattle.demands.specs.Demanded.{AcceptsExactly, AnswersReading, CountsItems}
use Rattle.demands.proofs.Itemised.{Reads, reading_answers, accepted_reads, fits, accepts_exactly, counts_items, accepted_only}
use Rattle.demands.proofs.Accepted.{one_reads}
use Rattle.demands.proofs.RunItemised.{run_reads}

-- big-endian words
abbrev pub bytes_of : List ℕ → List ℕ
bytes_of [] = []
bytes_of (v ∷ rest) = v / 16777216 ∷ v / 65536 % 256 ∷ v / 256 % 256 ∷ v % 256 ∷ bytes_of rest

-- P2 (docs/RULES.md, 13): a datagram of no sample
abbrev pub p2 : List ℕ
p2 = bytes_of (5 ∷ 0 ∷ 0 ∷ 1 ∷ 0 ∷ 0 ∷ [])

-- two datagrams of 36 bytes that hold one raw sample: one has an address of four bytes, the other four bytes in its sample
abbrev addressed : List ℕ
addressed = bytes_of (5 ∷ 1 ∷ 0 ∷ 0 ∷ 1 ∷ 0 ∷ 1 ∷ 4097 ∷ 0 ∷ [])

abbrev filled : List ℕ
filled = bytes_of (5 ∷ 0 ∷ 0 ∷ 1 ∷ 0 ∷ 1 ∷ 4097 ∷ 4 ∷ 0 ∷ [])

-- P2 twice, and P2 with as many zeros behind it
abbrev twice : List ℕ
twice = p2 ++ p2

abbrev spoilt : List ℕ
spoilt = p2 ++ replicate 24 0

-- a store for a quarter of each
abbrev lent : List ℕ
lent = replicate (12 * descriptor_words) 165

-- ---- what is computed of them

one_codes : (mode : Mode) → ((one mode p2 lent).code ≡ 0) × ((one mode addressed lent).code ≡ 0) × ((one mode filled lent).code ≡ 0) × ((one mode [] lent).code ≡ 2)
unfolding be4 known header_protocols follow read_item address_of run_of field fields last_number opened flows flow samples datagram_to size rows header_of no_header stored one
one_codes mode = (refl, refl, refl, refl)

p2_store : (mode : Mode) → get_or (one mode p2 lent).store 0 0 ≡ 0
unfolding be4 known header_protocols follow read_item address_of run_of field fields last_number opened flows flow samples datagram_to size rows header_of no_header stored one
p2_store mode = refl

-- a number that is made of the input's length, the code, the position and the descriptors
abbrev Made : (ℕ → ℕ → ℕ → ℕ → ℕ) → List ℕ → Answer → ℕ
Made g s a = g (length s) a.code a.at a.needed

other_steps : (mode : Mode) → ((one mode addressed lent).steps ≡ 9) × ((one mode filled lent).steps ≡ 8) × ((g : ℕ → ℕ → ℕ → ℕ → ℕ) → Made g addressed (one mode addressed lent) ≡ Made g filled (one mode filled lent))
unfolding be4 known header_protocols follow read_item address_of run_of field fields last_number opened flows flow samples datagram_to size rows header_of no_header stored one
other_steps mode = (refl, refl, λ g. refl)

same_first : (mode : Mode) → ((one mode twice lent).code ≡ 0) × ((one mode spoilt lent).code ≡ 0) × (one mode twice lent ≡ one mode spoilt lent)
unfolding be4 known header_protocols follow read_item address_of run_of field fields last_number opened flows flow samples datagram_to size rows header_of no_header stored one
same_first mode = (refl, refl, refl)

run_codes : (mode : Mode) → ((run mode twice lent).code ≡ 0) × ((run mode spoilt lent).code ≡ 3)
unfolding be4 known header_protocols follow read_item address_of run_of field fields last_number opened flows flow samples datagram_to size rows header_of no_header stored one tried datagrams run
run_codes mode = (refl, refl)

-- ---- so the grammar reads what is accepted, and does not read what is refused
module _ {t : Subject} {c : Call} (r : Reads t c) (s : List ℕ) where
  has_reading : (c s lent).code ≡ 0 → (x : t.Finding) × (end items : ℕ) × t.Whole s x end items
  has_reading z = let a = accepted_reads r s lent z in (a.found, a.end, a.items, a.reading)

  has_none : {k : ℕ} → length s ≤ 48 → (c s lent).code ≡ k → 0 < k → (x : t.Finding) × (end items : ℕ) × t.Whole s x end items → ⊥
  has_none h e l (x, end, n, i) = let z = (reading_answers r s lent (omega arith) i (fits r s lent i (omega arith))).0.code in omega (arith, z, e)

-- ---- one datagram
module _ (mode : Mode) (f : Call) (exactly : AcceptsExactly (a_datagram mode) f) where
  -- a decoder that refuses all
  pub refuses_all : ((s w : List ℕ) → (f s w).code ≡ 0 → ⊥) → ⊥
  refuses_all h = h p2 lent ((exactly p2 lent (omega arith) (omega arith)).1 (has_reading (one_reads mode) p2 (one_codes mode).0))

  -- one that answers P2 always
  pub answers_p2 : ((s w : List ℕ) → f s w ≡ f p2 w) → ⊥
  answers_p2 h =
      let z = (exactly p2 lent (omega arith) (omega arith)).1 (has_reading (one_reads mode) p2 (one_codes mode).0) in
      has_none (one_reads mode) [] (omega arith) (one_codes mode).3 (omega arith) ((exactly [] lent (omega arith) (omega arith)).0 (ap (λ (a : Answer). a.code) (h [] lent) ∙ z))

  module _ (answers : AnswersReading (a_datagram mode) f) where
    -- one that writes no descriptor
    pub writes_nothing : ((s w : List ℕ) → (f s w).store ≡ w) → ⊥
    writes_nothing h =
        let z = (exactly p2 lent (omega arith) (omega arith)).1 (has_reading (one_reads mode) p2 (one_codes mode).0) in
        let k = answers p2 lent (omega (arith, z)) in
        let e : (f p2 lent).store ≡ (one mode p2 lent).store = k.answers.store ∙ sym (reading_answers (one_reads mode) p2 lent k.short k.reading k.fits).0.store in
        let j : ◌≡◌ {A = ℕ} 165 0 = ap (λ (l : List ℕ). get_or l 0 0) (sym (h p2 lent) ∙ e) ∙ p2_store mode in
        omega arith

    -- one that reports a step count of its own making: of the input's length, the code, the position and the descriptors, and not of the items
    pub own_steps : CountsItems (a_datagram mode) f → (g : ℕ → ℕ → ℕ → ℕ → ℕ) → ((s w : List ℕ) → (f s w).steps ≡ Made g s (f s w)) → ⊥
    own_steps counts g h =
        let c = made addressed ((exactly addressed lent (omega arith) (omega arith)).1 (has_reading (one_reads mode) addressed (one_codes mode).1)) in
        let d = made filled ((exactly filled lent (omega arith) (omega arith)).1 (has_reading (one_reads mode) filled (one_codes mode).2)) in
        omega (arith, (other_steps mode).0, (other_steps mode).1, c ∙ (other_steps mode).2 g ∙ sym d)
      where
        made : (s : List ℕ) → (f s lent).code ≡ 0 → (one mode s lent).steps ≡ Made g s (one mode s lent)
        made s z = let e = accepted_only (one_reads mode) answers counts s lent z in ap (λ (a : Answer). a.steps) (sym e) ∙ h s lent ∙ ap (Made g s) e

-- ---- and to no other demand: `decode` with one thing wrong meets the others

-- the code, the steps or the store is another
abbrev changed : (code : ℕ) → (steps : ℕ) → (store : List ℕ) → Answer → Answer
changed c n w a = record { code = c; at = a.at; steps = n; needed = a.needed; head = a.head; store = w }

abbrev pub refuser : Mode → Call
refuser mode s w = changed 2 (one mode s w).steps (one mode s w).store (one mode s w)

abbrev pub storeless : Mode → Call
storeless mode s w = changed (one mode s w).code (one mode s w).steps w (one mode s w)

abbrev pub stepless : Mode → Call
stepless mode s w = changed (one mode s w).code 0 (one mode s w).store (one mode s w)

pub refuser_else : (mode : Mode) → AnswersReading (a_datagram mode) (refuser mode) × CountsItems (a_datagram mode) (refuser mode)
refuser_else mode = (λ s w z. absurd (omega (arith, z)), counts_items (one_reads mode))

pub storeless_else : (mode : Mode) → AcceptsExactly (a_datagram mode) (storeless mode) × CountsItems (a_datagram mode) (storeless mode)
storeless_else mode = (accepts_exactly (one_reads mode), counts_items (one_reads mode))

pub stepless_else : (mode : Mode) → AcceptsExactly (a_datagram mode) (stepless mode) × AnswersReading (a_datagram mode) (stepless mode)
stepless_else mode = (accepts_exactly (one_reads mode), λ s w z. go s w (accepted_reads (one_reads mode) s w (omega (arith, z))))
  where
    go : (s w : List ℕ) → Accepted (a_datagram mode) s w (one mode s w) → Accepted (a_datagram mode) s w (stepless mode s w)
    go s w k =
        let b = k.answers in
        record { short = k.short; found = k.found; end = k.end; items = k.items; reading = k.reading; fits = k.fits; answers = record { code = b.code; at = b.at; needed = b.needed; head = b.head; store = b.store } }

-- ---- a run

-- one that reads its first datagram, as a call does that meets the demands, and makes up the rest from what that says and from the input's length
pub run_invents : (mode : Mode) (f : Call) → AcceptsExactly (a_run mode) f
    → (d : Call) → AcceptsExactly (a_datagram mode) d → AnswersReading (a_datagram mode) d → CountsItems (a_datagram mode) d
    → (g : (first : Answer) → (long : ℕ) → (store : List ℕ) → Answer) → ((s w : List ℕ) → f s w ≡ g (d s w) (length s) w) → ⊥
run_invents mode f exactly d takes answers counts g h =
    let i = accepted_only (one_reads mode) answers counts twice lent ((takes twice lent (omega arith) (omega arith)).1 (has_reading (one_reads mode) twice (same_first mode).0)) in
    let j = accepted_only (one_reads mode) answers counts spoilt lent ((takes spoilt lent (omega arith) (omega arith)).1 (has_reading (one_reads mode) spoilt (same_first mode).1)) in
    let e : f spoilt lent ≡ f twice lent = h spoilt lent ∙ ap (λ (x : Answer). g x 48 lent) (j ∙ sym (same_first mode).2 ∙ sym i) ∙ sym (h twice lent) in
    let z = (exactly twice lent (omega arith) (omega arith)).1 (has_reading (run_reads mode) twice (run_codes mode).0) in
    has_none (run_reads mode) spoilt (omega arith) (run_codes mode).1 (omega arith) ((exactly spoilt lent (omega arith) (omega arith)).0 (ap (λ (x : Answer). x.code) e ∙ z))
