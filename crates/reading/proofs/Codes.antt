-- The code of a layout, a record, a datagram or a run that is refused is one of 2 to 8, and so never 0. Assumes nothing.
use Prim.Native.Nat.{ℕ, zero, suc}
use mathlib.Core.Path.{◌≡◌, refl}
use mathlib.Core.Bool.{true}
use mathlib.Core.List.{List, [], ◌∷◌, ◌++◌}
use native.Mathlib.Omega.{arith}
use lib.Dec.{eqb, leb}
use lib.ListN.{length}
use Rattle.reading.specs.Script.{Value, Found, Script}
use Rattle.reading.specs.Cursor.{Place, Out, stop, follow}
use Rattle.reading.specs.Layout.{Mode, memo, base, ethernet, words, num, Field, plain, mac, addr, list, segments, address_of, run_of, field, fields, Row, ◌⟼◌, ◌⟼◌each◌, opened, Size, u32, u64, widths, Fixed, fixed_rows, framed, flows, flow, counters, counter, samples, datagram_to, datagram}
use Rattle.reading.specs.Sizes.{depth_limit}
use Rattle.reading.specs.Values.{alone}
use Rattle.reading.specs.Answer.{run_ender, tried, datagrams, layout_at, layout_of}
use Rattle.reading.proofs.Items.{either}
use Rattle.reading.proofs.Faults.{both, fair_field, fair, Coded, gives, refuses, stands, reads, opens, repeats, Sure, fine, fault, sure_then, sure, not_zero, stop_coded}

-- ---- fields

coded_address : {k : Value → Script} → ((v : Value) → Coded (k v)) → (t : ℕ) → Coded (address_of t k)
unfolding address_of
coded_address h zero = h _
coded_address h (suc zero) = reads refl (λ b. h _)
coded_address h (suc (suc t)) = reads refl (λ b. h _)

coded_run : {body : Script} {k : Value → Script} → Coded body → ((v : Value) → Coded (k v)) → Coded (run_of body k)
unfolding run_of
coded_run b h = reads refl (λ n. stands (λ at. repeats b (λ a. h _)))

pub coded_field : {k : Value → Script} (f : Field) → fair_field f ≡ true → ((v : Value) → Coded (k v)) → Coded (field f k)
unfolding field
coded_field (plain i) e h = reads e h
coded_field mac e h = reads refl (λ b. h _)
coded_field addr e h = reads refl (λ t. coded_address h (num t))
coded_field list e h = coded_run (reads refl (λ v. gives)) h
coded_field segments e h = coded_run (reads refl (λ v. coded_run (reads refl (λ w. gives)) (λ w. gives))) h

pub coded_fields : {k : List Value → Script} (l : List Field) → fair l ≡ true → ((vs : List Value) → Coded (k vs)) → Coded (fields l k)
unfolding fields
coded_fields [] e h = h []
coded_fields (f ∷ rest) e h = let b = both (fair_field f) (fair rest) e in coded_field f b.0 (λ v. coded_fields rest b.1 (λ vs. h (v ∷ vs)))

-- a layout that is read alone
pub reading_coded : {c a n : ℕ} (l : List Field) → fair l ≡ true → (s : List ℕ) (p : Place) → follow (alone l) s p ≡ stop c a n → c ≡ 0 → ⊥
reading_coded l e = stop_coded (coded_fields l e (λ vs. gives))

-- ---- tables

-- rows whose codes are
data Rows : List Row → Type 0 where
  none : Rows []
  flat : {g : ℕ} {l : List Field} {rest : List Row} → fair l ≡ true → Rows rest → Rows ((g ⟼ l) ∷ rest)
  counts : {g : ℕ} {l : List Field} {body : Script} {rest : List Row} → fair l ≡ true → Coded body → Rows rest → Rows ((g ⟼ l each body) ∷ rest)

coded_opened : {rows : List Row} → Rows rows → (f : ℕ) → Coded (opened rows f)
unfolding opened
coded_opened none f = gives
coded_opened (flat {g} {l} e t) f = either Coded (eqb g f) (coded_fields l e (λ vs. gives)) (coded_opened t f)
coded_opened (counts {g} {l} e h t) f = either Coded (eqb g f) (coded_fields l e (λ vs. repeats h (λ a. gives))) (coded_opened t f)

fair_at : {rows : List Row} → Rows rows → (f : ℕ) → fair (layout_at rows f) ≡ true
fair_at none f = refl
fair_at (flat {g} e t) f = either (λ (l : List Field). fair l ≡ true) (eqb g f) e (fair_at t f)
fair_at (counts {g} e h t) f = either (λ (l : List Field). fair l ≡ true) (eqb g f) e (fair_at t f)

fair_ethernet : (mode : Mode) → fair (words 1 ++ ethernet mode ∷ ethernet mode ∷ words 1) ≡ true
fair_ethernet memo = refl
fair_ethernet base = refl

coded_flows : (mode : Mode) {inner : Script} → Coded inner → Rows (flows mode inner)
unfolding flows
coded_flows mode h = search (flat, counts, none, fair_ethernet) depth 200

-- a fixed layout, and a table of them
fair_widths : (l : List Size) → fair (widths l) ≡ true
fair_widths [] = refl
fair_widths (u32 ∷ l) = fair_widths l
fair_widths (u64 ∷ l) = fair_widths l

coded_fixed : (t : List Fixed) → Rows (fixed_rows t)
coded_fixed [] = none
coded_fixed (x ∷ t) = flat (fair_widths x.sizes) (coded_fixed t)

coded_framed : {kind depth : ℕ} {body : ℕ → Script} → ((f : ℕ) → Coded (body f)) → Coded (framed kind depth body)
coded_framed h = stands (λ o. reads refl (λ f. opens (h (num f)) (λ x a. gives)))

pub coded_flow : (mode : Mode) (limit left : ℕ) → Coded (flow mode limit left)
unfolding flow
coded_flow mode limit zero = refuses {c = 8} (omega arith, omega arith)
coded_flow mode limit (suc left) = coded_framed (coded_opened (coded_flows mode (stands (λ o. reads refl (λ n. stands (λ a. repeats (coded_flow mode limit left) (λ r. stands (λ e. gives))))))))

coded_samples : (mode : Mode) (limit : ℕ) → Rows (samples mode limit)
unfolding samples
coded_samples mode limit =
    let f : Coded (flow mode limit limit) = coded_flow mode limit limit in
    let c : Coded counter = coded_framed (coded_opened (coded_fixed counters)) in
    counts refl f (counts refl c (counts refl f (counts refl c (counts refl f none))))

-- the fields of every descriptor
pub fair_layout : (mode : Mode) (kind format : ℕ) → fair (layout_of mode kind format) ≡ true
unfolding layout_of
fair_layout mode zero f = refl
fair_layout mode (suc zero) f = fair_at (coded_samples mode depth_limit) f
fair_layout mode (suc (suc zero)) f = fair_at (coded_flows mode gives) f
fair_layout mode (suc (suc (suc zero))) f = fair_at (coded_fixed counters) f
fair_layout mode (suc (suc (suc (suc k)))) f = refl

-- ---- a datagram, and a run of them

pub coded_datagram : (mode : Mode) → Coded (datagram mode)
unfolding datagram_to
coded_datagram mode = stands (λ a. coded_fields _ refl (λ vs. repeats (coded_framed (coded_opened (coded_samples mode depth_limit))) (λ r. stands (λ e. gives))))

pub sure_datagram : (mode : Mode) (s : List ℕ) (p : Place) → Sure (follow (datagram mode) s p)
sure_datagram mode = sure (coded_datagram mode)

pub datagram_coded : (mode : Mode) {c a n : ℕ} (s : List ℕ) (p : Place) → follow (datagram mode) s p ≡ stop c a n → c ≡ 0 → ⊥
datagram_coded mode = stop_coded (coded_datagram mode)

sure_tried : {o : Out Found} (p : Place) (on : Place → Out Found) → Sure o → ((q : Place) → Sure (on q)) → Sure (tried o p on)
unfolding tried
sure_tried p on (fine {p = q}) h = sure_then (h q) (λ f e. fine)
sure_tried p on (fault {c} k) h = either Sure (eqb c run_ender) fine (fault k)

pub sure_run : (mode : Mode) (fuel : ℕ) (s : List ℕ) (p : Place) → Sure (datagrams mode fuel s p)
unfolding datagrams
sure_run mode zero s p = fine
sure_run mode (suc fuel) s p = either Sure (leb (length s) p.at) fine (sure_tried p _ (sure_datagram mode s p) (λ q. sure_run mode fuel s q))

pub run_coded : (mode : Mode) {c a n : ℕ} (fuel : ℕ) (s : List ℕ) (p : Place) → datagrams mode fuel s p ≡ stop c a n → c ≡ 0 → ⊥
run_coded mode fuel s p = not_zero (sure_run mode fuel s p)
