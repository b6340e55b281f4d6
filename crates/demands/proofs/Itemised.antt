-- Demands 2 and 3 and the first fault, of any call whose answer is what a cursor gives, where that is what the grammar has: `Accepted` shows that `decode`
-- is such a call, and `RunItemised` that `decode_run` is. Assumes nothing.
use Prim.Native.Nat.{ℕ, ◌*◌, ◌/◌, ◌≤◌, ◌<◌}
use mathlib.Core.Path.{◌≡◌, refl, sym, ap, ◌∙◌, subst}
use mathlib.Core.Bool.{Bool, true, false, cond}
use mathlib.Core.List.{List, ◌++◌}
use native.Mathlib.Omega.{arith}
use borrow.Author.Tests.{le-leb, lt-leb, leb-true, leb-false}
use lib.Dec.{leb}
use lib.ListN.{length, take, drop}
use Rattle.reading.specs.Cursor.{Place, Out, got, stop}
use Rattle.reading.specs.Answer.{limited, nobody, size, rows, room, Answer, refused}
use Rattle.reading.specs.Sizes.{longest_input, descriptor_words}
use Rattle.reading.proofs.Items.{never}
use Rattle.reading.proofs.Stands.{place}
use Rattle.reading.proofs.Faults.{Sure, fault}
use Rattle.demands.specs.Itemised.{Subject, Answers, Accepted, Itemised, too_long, faulty, no_room, whole}
use Rattle.demands.specs.Calls.{Call}
use Rattle.demands.specs.Demanded.{AcceptsExactly, AnswersReading, CountsItems}

-- the answer where a finding is accepted
abbrev taken : (t : Subject) → List ℕ → t.Finding → (end items : ℕ) → Answer
taken t w x end n =
    record { code = 0; at = end; steps = n; needed = size (t.ranges x); head = t.head x; store = rows 0 nobody (t.ranges x) ++ drop (descriptor_words * size (t.ranges x)) w }

taken_answers : (t : Subject) (w : List ℕ) (x : t.Finding) (end n : ℕ) → Answers t w x end (taken t w x end n)
taken_answers t w x end n = record { code = refl; at = refl; needed = refl; head = refl; store = refl }

-- the answer to an outcome: to a finding that the store has room for, to one that it has not, and to a fault
unfoldable pub shown : (t : Subject) → Out t.Finding → List ℕ → Answer
shown t (got x q) w = cond (leb (size (t.ranges x)) (room w)) (taken t w x q.at q.steps) (refused 9 0 q.steps (size (t.ranges x)) w)
shown t (stop c i n) w = refused c i n 0 w

-- the code of a refusal
code_of : {a : Answer} {c i n k d : ℕ} {w : List ℕ} → a ≡ refused c i n k w → a.code ≡ d → c ≡ d
code_of e z = sym (ap (λ (b : Answer). b.code) e) ∙ z

-- an outcome is what the grammar has of s
pub data Says (t : Subject) (s : List ℕ) : Out t.Finding → Type 0 where
  read : {x : t.Finding} {q : Place} → t.Whole s x q.at q.steps → Says t s (got x q)
  stopped : {c i n : ℕ} → t.Stopped s c i n → Says t s (stop c i n)

-- a call that reads a subject: a cursor gives just what the grammar has, and that is answered
pub record Reads (t : Subject) (f : Call) : Type 1 where
  pub outcome : List ℕ → Out t.Finding
  pub says : (s : List ℕ) → Says t s (outcome s)
  pub is_read : (s : List ℕ) (x : t.Finding) (end n : ℕ) → t.Whole s x end n → outcome s ≡ got x (place end n)
  pub is_stopped : (s : List ℕ) (c i n : ℕ) → t.Stopped s c i n → outcome s ≡ stop c i n
  -- the codes of its faults are 2 to 8, and it has four bytes for each range
  pub sure : (s : List ℕ) → Sure (outcome s)
  pub small : (s : List ℕ) (x : t.Finding) (end n : ℕ) → t.Whole s x end n → 4 * size (t.ranges x) ≤ length s
  pub answer : (s w : List ℕ) → f s w ≡ limited s (shown t (outcome s) w) (refused 1 0 0 0 w)

module _ {t : Subject} {f : Call} (r : Reads t f) where
  -- ---- every answer is one of four
  pub itemised : (s w : List ℕ) → Itemised t s w (f s w)
  unfolding shown
  itemised s w = subst (Itemised t s w) (sym (r.answer s w)) (go (leb (length s) longest_input) refl)
    where
      short : length s ≤ longest_input → {o : Out t.Finding} → Says t s o → Itemised t s w (shown t o w)
      short h (stopped k) = faulty h _ _ _ k refl
      short h (read {x} {q} k) = roomy (leb (size (t.ranges x)) (room w)) refl
        where
          roomy : (b : Bool) → leb (size (t.ranges x)) (room w) ≡ b → Itemised t s w (cond b (taken t w x q.at q.steps) (refused 9 0 q.steps (size (t.ranges x)) w))
          roomy true b = whole (record { short = h; found = x; end = q.at; items = q.steps; reading = k; fits = leb-true _ _ b; answers = taken_answers t w x q.at q.steps }) refl
          roomy false b = no_room h x q.at q.steps k (leb-false _ _ b) refl

      go : (b : Bool) → leb (length s) longest_input ≡ b → Itemised t s w (cond b (shown t (r.outcome s) w) (refused 1 0 0 0 w))
      go true b = short (leb-true _ _ b) (r.says s)
      go false b = too_long (leb-false _ _ b) refl

  -- so what holds of each code holds of the one that is answered, and what holds of the items read holds of the steps
  pub by_code : (P : ℕ → Type 0) (s w : List ℕ) → P 0 → P 1 → P 9 → ((c i n : ℕ) → t.Stopped s c i n → P c) → P (f s w).code
  by_code P s w accepted long last stops = go (f s w) (itemised s w)
    where
      go : (a : Answer) → Itemised t s w a → P a.code
      go a (too_long h e) = rw e long
      go a (faulty h c i n k e) = rw e (stops c i n k)
      go a (no_room h x end n k l e) = rw e last
      go a (whole k e) = rw k.answers.code accepted

  pub by_items : (P : ℕ → Type 0) (s w : List ℕ) → (longest_input < length s → P 0) → ((c i n : ℕ) → t.Stopped s c i n → P n) → ((x : t.Finding) (end n : ℕ) → t.Whole s x end n → P n) → P (f s w).steps
  by_items P s w none stops all = go (f s w) (itemised s w)
    where
      go : (a : Answer) → Itemised t s w a → P a.steps
      go a (too_long h e) = rw e (none h)
      go a (faulty h c i n k e) = rw e (stops c i n k)
      go a (no_room h x end n k l e) = rw e (all x end n k)
      go a (whole k e) = rw e (all k.found k.end k.items k.reading)

  -- ---- and no other answer is
  pub only_itemised : (s w : List ℕ) {a : Answer} → Itemised t s w a → a ≡ f s w
  unfolding shown
  only_itemised s w (too_long h e) = e ∙ sym (r.answer s w ∙ rw (lt-leb (length s) longest_input h))
  only_itemised s w (faulty h c i n k e) = e ∙ sym (r.answer s w ∙ rw (le-leb (length s) longest_input h, r.is_stopped s c i n k))
  only_itemised s w (no_room h x end n k l e) = e ∙ sym (r.answer s w ∙ rw (le-leb (length s) longest_input h, r.is_read s x end n k, lt-leb (size (t.ranges x)) (room w) l))
  only_itemised s w {a} (whole k m) =
      let b = k.answers in
      let z : a ≡ taken t w k.found k.end k.items = λ i. record { code = b.code i; at = b.at i; steps = m i; needed = b.needed i; head = b.head i; store = b.store i } in
      z ∙ sym (r.answer s w ∙ rw (le-leb (length s) longest_input k.short, r.is_read s k.found k.end k.items k.reading, le-leb (size (t.ranges k.found)) (room w) k.fits))

  -- ---- so each is given where it is due: code 1 before all, then the first fault
  pub long_refused : (s w : List ℕ) → longest_input < length s → f s w ≡ refused 1 0 0 0 w
  long_refused s w h = sym (only_itemised s w (too_long h refl))

  pub fault_refused : (s w : List ℕ) {c i n : ℕ} → length s ≤ longest_input → t.Stopped s c i n → f s w ≡ refused c i n 0 w
  fault_refused s w h k = sym (only_itemised s w (faulty h _ _ _ k refl))

  -- a reading that the store has room for is answered
  pub reading_answers : (s w : List ℕ) {x : t.Finding} {end n : ℕ} → length s ≤ longest_input → t.Whole s x end n → size (t.ranges x) ≤ room w → Answers t w x end (f s w) × ((f s w).steps ≡ n)
  reading_answers s w {x} {end} {n} h k l =
      let a = taken_answers t w x end n in
      subst (λ (b : Answer). Answers t w x end b × (b.steps ≡ n)) (only_itemised s w (whole (record { short = h; found = x; end = end; items = n; reading = k; fits = l; answers = a }) refl)) (a, refl)

  -- ---- there is one reading or one fault
  pub one_whole : (s : List ℕ) {x y : t.Finding} {end last n m : ℕ} → t.Whole s x end n → t.Whole s y last m → (x ≡ y) × (end ≡ last) × (n ≡ m)
  one_whole s {x} {y} {end} {last} {n} {m} a b =
      let e : got x (place end n) ≡ got y (place last m) = sym (r.is_read s x end n a) ∙ r.is_read s y last m b in
      let p : place end n ≡ place last m = cc in
      (cc, ap (λ (q : Place). q.at) p, ap (λ (q : Place). q.steps) p)

  pub one_fault : (s : List ℕ) {c i n d j m : ℕ} → t.Stopped s c i n → t.Stopped s d j m → (c ≡ d) × (i ≡ j) × (n ≡ m)
  one_fault s {c} {i} {n} {d} {j} {m} a b =
      let e : ◌≡◌ {A = Out t.Finding} (stop c i n) (stop d j m) = sym (r.is_stopped s c i n a) ∙ r.is_stopped s d j m b in
      (cc, cc, cc)

  pub no_fault : (s : List ℕ) {c i n end m : ℕ} {x : t.Finding} → t.Stopped s c i n → t.Whole s x end m → ⊥
  no_fault s a b = never (sym (r.is_stopped s _ _ _ a) ∙ r.is_read s _ _ _ b)

  -- the code of a fault
  fault_code : (s : List ℕ) {c i n : ℕ} → t.Stopped s c i n → (2 ≤ c) × (c ≤ 8)
  fault_code s k = go (subst Sure (r.is_stopped s _ _ _ k) (r.sure s))
    where
      go : {c i n : ℕ} → Sure {A = t.Finding} (stop c i n) → (2 ≤ c) × (c ≤ 8)
      go (fault z) = z

  -- ---- what code 0 says, and code 9
  pub accepted_reads : (s w : List ℕ) → (f s w).code ≡ 0 → Accepted t s w (f s w)
  accepted_reads s w z = go (f s w) (itemised s w) z
    where
      go : (a : Answer) → Itemised t s w a → a.code ≡ 0 → Accepted t s w a
      go a (too_long h e) z = absurd (omega (arith, code_of e z))
      go a (faulty h c i n m e) z = absurd (omega (arith, code_of e z, (fault_code s m).0))
      go a (no_room h x end n m l e) z = absurd (omega (arith, code_of e z))
      go a (whole k e) z = k

  pub room_last : (s w : List ℕ) → (f s w).code ≡ 9
      → (x : t.Finding) × (end n : ℕ) × t.Whole s x end n × (room w < size (t.ranges x)) × (f s w ≡ refused 9 0 n (size (t.ranges x)) w)
  room_last s w z = go (f s w) (itemised s w) z
    where
      go : (a : Answer) → Itemised t s w a → a.code ≡ 9 → (x : t.Finding) × (end n : ℕ) × t.Whole s x end n × (room w < size (t.ranges x)) × (a ≡ refused 9 0 n (size (t.ranges x)) w)
      go a (too_long h e) z = absurd (omega (arith, code_of e z))
      go a (faulty h c i n m e) z = absurd (omega (arith, code_of e z, (fault_code s m).1))
      go a (no_room h x end n m l e) z = (x, end, n, m, l, e)
      go a (whole k e) z = absurd (omega (arith, k.answers.code, z))

  -- a store for a quarter of the length has room for any reading
  pub fits : (s w : List ℕ) {x : t.Finding} {end n : ℕ} → t.Whole s x end n → length s / 4 ≤ room w → size (t.ranges x) ≤ room w
  fits s w {x} {end} {n} k l = omega (arith, r.small s x end n k)

  pub never_for_room : (s w : List ℕ) → length s / 4 ≤ room w → (f s w).code ≡ 9 → ⊥
  never_for_room s w l z = let (x, end, n, k, m, _) = room_last s w z in let y = fits s w k l in omega (arith, m, y)

  -- and four bytes of the input for each descriptor needed
  pub needed_small : (s w : List ℕ) → 4 * (f s w).needed ≤ length s
  needed_small s w = go (f s w) (itemised s w)
    where
      go : (a : Answer) → Itemised t s w a → 4 * a.needed ≤ length s
      go a (too_long h e) = rw e (omega arith)
      go a (faulty h c i n k e) = rw e (omega arith)
      go a (no_room h x end n k l e) = rw e (r.small s x end n k)
      go a (whole k e) = rw k.answers.needed (r.small s k.found k.end k.items k.reading)

  -- ---- it meets the demands
  pub accepts_exactly : AcceptsExactly t f
  accepts_exactly s w short wide =
      (λ z. let a = accepted_reads s w z in (a.found, a.end, a.items, a.reading), λ (x, end, n, k). (reading_answers s w (omega (arith, short)) k (fits s w k wide)).0.code)

  pub answers_reading : AnswersReading t f
  answers_reading s w z = accepted_reads s w (omega (arith, z))

  pub counts_items : CountsItems t f
  counts_items s w = (f s w, itemised s w, omega arith)

  -- ---- and another call that meets them answers what it accepts as this one does
  pub accepted_only : {g : Call} → AnswersReading t g → CountsItems t g → (s w : List ℕ) → (g s w).code ≡ 0 → g s w ≡ f s w
  accepted_only answers counts s w z =
      let k = answers s w (omega (arith, z)) in
      let (a, i, n) = counts s w in
      only_itemised s w (whole k (omega (arith, n, ap (λ (b : Answer). b.steps) (only_itemised s w i), (reading_answers s w k.short k.reading k.fits).1)))

  -- ---- code 8: where a fault with code 8 is one of any input that is as long, and alike before it, that input is answered alike
  pub eight_unseen : ((s u : List ℕ) (i n : ℕ) → t.Stopped s 8 i n → length u ≡ length s → take i u ≡ take i s → t.Stopped u 8 i n)
      → (s u w : List ℕ) → (f s w).code ≡ 8 → length u ≡ length s → take (f s w).at u ≡ take (f s w).at s → f u w ≡ f s w
  eight_unseen unseen s u w z l e = go (f s w) (itemised s w) z e
    where
      go : (a : Answer) → Itemised t s w a → a.code ≡ 8 → take a.at u ≡ take a.at s → f u w ≡ a
      go a (too_long h y) z e = absurd (omega (arith, code_of y z))
      go a (faulty h c i n m y) z e =
          let k = code_of y z in
          let j : a.at ≡ i = ap (λ (b : Answer). b.at) y in
          let v = unseen s u i n (subst (λ (d : ℕ). t.Stopped s d i n) k m) l (rw j at e) in
          fault_refused u w (rw l h) v ∙ ap (λ (d : ℕ). refused d i n 0 w) (sym k) ∙ sym y
      go a (no_room h x end n m l y) z e = absurd (omega (arith, code_of y z))
      go a (whole k y) z e = absurd (omega (arith, k.answers.code, z))
