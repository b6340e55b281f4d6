-- What holds at the head of a loop of the second pass: what is left to do comes to what the whole does. Assumes nothing.
use Rattle.std.proofs.Common.{ℕ, ◌+◌, ◌-◌, ◌≡◌, ◌≤◌, ◌<◌, refl, ap, ◌∙◌, List, length, arith}
use Rattle.reading.specs.Script.{Script}
use Rattle.reading.specs.Cursor.{times, follow}
use Rattle.reading.specs.Answer.{from}
use Rattle.store.specs.declared.Pen.{Pen}
use Rattle.store.specs.Written.{Ready, a_pen, placed}
use Rattle.store.proofs.Placing.{a_put, put_done, put_kept, put_turn, ready_first, ready_next}

-- of n from `at` on, whose descriptors go to l from a word on, those behind the first i are left, and go to l' from the word `to` on
pub record Left (sc : Script) (s : List ℕ) (n : ℕ) (pen : Pen) (at : ℕ) (l : List ℕ) (i cur to : ℕ) (l' : List ℕ) : Type 0 where
  pub kept : length l' ≡ length l
  pub ready : Ready s l' (a_pen pen.base pen.parent to) (times (n - i) (follow sc) s (from cur))
  pub same : placed (a_pen pen.base pen.parent to) (times (n - i) (follow sc) s (from cur)) l' ≡ placed pen (times n (follow sc) s (from at)) l

pub left_all : (sc : Script) (s : List ℕ) (n : ℕ) (pen : Pen) (at : ℕ) (l : List ℕ) → Ready s l pen (times n (follow sc) s (from at)) → Left sc s n pen at l 0 at pen.word l
left_all sc s n pen at l g = let z : n - 0 ≡ n = omega arith in record { kept = refl; ready = rw z g; same = ap (λ (m : ℕ). placed pen (times m (follow sc) s (from at)) l) z }

module _ {sc : Script} {s : List ℕ} {n : ℕ} {pen : Pen} {at : ℕ} {l : List ℕ} {i cur to : ℕ} {l' : List ℕ} (h : Left sc s n pen at l i cur to l') where
  pub left_done : n ≤ i → a_put cur to l' ≡ placed pen (times n (follow sc) s (from at)) l
  left_done z = put_done sc (n - i) s l' cur pen.base pen.parent to h.same (omega arith)

  module _ (z : i < n) where
    pub left_first : Ready s l' (a_pen pen.base pen.parent to) (follow sc s (from cur))
    left_first = ready_first sc (n - i) s l' cur pen.base pen.parent to h.ready (omega arith)

    pub left_next : {a b : ℕ} {l'' : List ℕ} → a_put a b l'' ≡ placed (a_pen pen.base pen.parent to) (follow sc s (from cur)) l' → Left sc s n pen at l (i + 1) a b l''
    left_next {a} {b} {l''} e =
        let y : n - i - 1 ≡ n - (i + 1) = omega arith in
        record {
          kept = put_kept (a_pen pen.base pen.parent to) _ l' e ∙ h.kept;
          ready = rw y at (ready_next sc (n - i) s l' cur pen.base pen.parent to e h.ready (omega arith));
          same = rw y at (put_turn sc (n - i) s l' cur pen.base pen.parent to e h.ready (omega arith) h.same);
        }

-- the same where the counter goes down: k are left
module _ {sc : Script} {s : List ℕ} {n : ℕ} {pen : Pen} {at : ℕ} {l : List ℕ} {k cur to : ℕ} {l' : List ℕ} (h : Left sc s n pen at l (n - k) cur to l') (b : k ≤ n) where
  pub back_done : k ≤ 0 → a_put cur to l' ≡ placed pen (times n (follow sc) s (from at)) l
  back_done z = left_done h (omega (arith, b))

  module _ (z : 0 < k) where
    pub back_first : Ready s l' (a_pen pen.base pen.parent to) (follow sc s (from cur))
    back_first = left_first h (omega (arith, b))

    pub back_next : {a e : ℕ} {l'' : List ℕ} → a_put a e l'' ≡ placed (a_pen pen.base pen.parent to) (follow sc s (from cur)) l' → Left sc s n pen at l (n - (k - 1)) a e l''
    back_next f = let y : n - k + 1 ≡ n - (k - 1) = omega (arith, b) in rw y at (left_next h (omega (arith, b)) f)
