-- The second pass over samples: a law for each need of its functions, with the facts that the code has there. Assumes nothing.
use Rattle.std.proofs.Common.{ℕ, ◌+◌, ◌*◌, ◌-◌, ◌≡◌, ◌≤◌, refl, sym, ap, ◌∙◌, List, length, arith}
use Rattle.reading.specs.Sizes.{depth_limit}
use Rattle.reading.specs.Bytes.{be4}
use Rattle.reading.specs.Script.{Found, Script}
use Rattle.reading.specs.Cursor.{Out, times, follow}
use Rattle.reading.specs.Layout.{base as base_mode, words, last_number, opened, fixed_rows, flow, counters, counter, samples, sample}
use Rattle.reading.specs.Answer.{size, from}
use Rattle.reading.proofs.Words.{numbers, row_got}
use Rattle.reading.proofs.Places.{Accepted, ranges_of, EachAt, each_lies, words_lie}
use Rattle.reading.proofs.Flat.{fixed_bare}
use Rattle.store.specs.declared.Pen.{Pen}
use Rattle.flows.specs.declared.put.Flat.{Flat}
use Rattle.store.specs.Written.{index, Ready, FramedHere, a_pen, framed_at, placed, filled, fills}
use Rattle.flows.specs.Passing.{FlatOf}
use Rattle.store.proofs.Placing as placing
use Rattle.store.proofs.Placing.{a_put, word_is, store_is}
use Rattle.samples.specs.declared.kinds.SampleKind.TheVariants as kind
use Rattle.samples.specs.Held.{counted_by_last, IsKind}
use Rattle.samples.proofs.Sampling.{last_is}

-- ---- a counter record, which holds nothing of its own
module _ (s l : List ℕ) (at : ℕ) (pen : Pen) (g : Ready s l pen (follow counter s (from at))) where
  pub counter_here : FramedHere s l at pen
  counter_here = placing.frame_here 3 1 (opened (fixed_rows counters)) s l at pen g

  pub counter_placed : {a b : ℕ} {l' : List ℕ} → a_put a b l' ≡ framed_at 3 1 s at pen l → a_put a b l' ≡ placed pen (follow counter s (from at)) l
  counter_placed e = placing.frame_alone 3 1 (opened (fixed_rows counters)) s l at pen g 1 e refl (fixed_bare counters (be4 s at) s (from (at + 8)))

-- what was placed, without the position
pub placed_fills : {a b : ℕ} {l' : List ℕ} (pen : Pen) (o : Out Found) (l : List ℕ) → a_put a b l' ≡ placed pen o l → filled b l' ≡ fills pen o l
unfolding fills placed
placed_fills pen o l e = let a = word_is pen o l e in let b = store_is pen o l e in λ h. record { word = a h; store = b h }

-- ---- a sample whose n words are followed by as many of `body` as the last of them says
module _ (body : Script) (n : ℕ) (s l : List ℕ) (at : ℕ) (pen : Pen) (f : ℕ) (g : Ready s l pen (follow (opened (samples base_mode depth_limit) f) s (from at))) (i : at ≤ length s)
    (r : opened (samples base_mode depth_limit) f ≡ counted_by_last n body) (some : 1 ≤ n) where
  same : follow (opened (samples base_mode depth_limit) f) s (from at) ≡ follow (counted_by_last n body) s (from at)
  same = ap (λ (x : Script). follow x s (from at)) r

  good : Accepted (follow (counted_by_last n body) s (from at))
  good = rw same at g.good

  fit : at + 4 * n ≤ length s
  fit = words_lie n _ s at i good

  pub arm_word : at + 4 * n - 4 + 4 ≤ length s
  arm_word = omega (arith, fit, some)

  behind : EachAt (words n) body s at (numbers n s at) (record { at = at + 4 * n; steps = 0 + n })
  behind = each_lies (words n) body s at (row_got s n (from at) fit) good

  same_ranges : ranges_of (follow (opened (samples base_mode depth_limit) f) s (from at)) ≡ ranges_of (times (last_number (numbers n s at)) (follow body) s (from (at + 4 * n)))
  same_ranges = ap ranges_of same ∙ behind.ranges

  module _ {m : ℕ} (v : m ≡ be4 s (at + 4 * n - 4)) where
    counts : m ≡ last_number (numbers n s at)
    counts = v ∙ sym (last_is n s at some)

    pub arm_inner : Ready s l pen (times m (follow body) s (from (at + 4 * n)))
    arm_inner =
        let e = ap size same_ranges in
        rw counts (record { short = g.short; good = behind.inner; room = omega (arith, g.room); few = omega (arith, g.few) })

    pub arm_filled : {k : ℕ} {l' : List ℕ} → filled k l' ≡ fills pen (times m (follow body) s (from (at + 4 * n))) l → filled k l' ≡ fills pen (follow (opened (samples base_mode depth_limit) f) s (from at)) l
    unfolding fills placed
    arm_filled e = rw same_ranges (rw (← counts) e)

-- or it stays raw
pub raw_filled : {f : ℕ} (s l : List ℕ) (at : ℕ) (pen : Pen) → IsKind kind.Raw f → filled pen.word l ≡ fills pen (follow (opened (samples base_mode depth_limit) f) s (from at)) l
unfolding follow ranges_of
raw_filled {f} s l at pen q = placing.nothing_more (follow (opened (samples base_mode depth_limit) f) s (from at)) pen l (ap (λ (x : Script). ranges_of (follow x s (from at))) (q.is base_mode))

-- ---- the flow records of a sample: what is left of n, and comes to what all of them do
pub flat_all : (s l : List ℕ) (at n : ℕ) (pen : Pen) → Ready s l pen (times n (follow (flow base_mode depth_limit depth_limit)) s (from at))
    → FlatOf depth_limit s l at n pen (record { at = at; word = pen.word; rest = n }) l
flat_all s l at n pen g = record { ready = g; same = refl; few = omega arith }

module _ {s l : List ℕ} {at n : ℕ} {pen : Pen} {r : Flat} {l' : List ℕ} (h : FlatOf depth_limit s l at n pen r l') where
  pub flat_done : r.rest ≤ 0 → filled r.word l' ≡ fills pen (times n (follow (flow base_mode depth_limit depth_limit)) s (from at)) l
  flat_done z = placed_fills {a = r.at} {b = r.word} pen _ l (placing.put_done (flow base_mode depth_limit depth_limit) r.rest s l' r.at pen.base pen.parent r.word h.same z)

  -- those behind the flat ones are left of all
  pub flat_then : {q : Flat} {l'' : List ℕ} → FlatOf depth_limit s l' r.at r.rest (a_pen pen.base pen.parent r.word) q l'' → FlatOf depth_limit s l at n pen q l''
  flat_then k = record { ready = k.ready; same = k.same ∙ h.same; few = omega (arith, h.few, k.few) }

  -- the aggregation that the flat ones end at
  module _ (z : r.rest ≡ 0 → ⊥) where
    pub flat_next : Ready s l' (a_pen pen.base pen.parent r.word) (follow (flow base_mode depth_limit depth_limit) s (from r.at))
    flat_next = placing.ready_first (flow base_mode depth_limit depth_limit) r.rest s l' r.at pen.base pen.parent r.word h.ready (omega arith)

    pub flat_turn : {a b : ℕ} {l'' : List ℕ} → a_put a b l'' ≡ placed (a_pen pen.base pen.parent r.word) (follow (flow base_mode depth_limit depth_limit) s (from r.at)) l'
        → FlatOf depth_limit s l at n pen (record { at = a; word = b; rest = r.rest - 1 }) l''
    flat_turn e = record {
      ready = placing.ready_next (flow base_mode depth_limit depth_limit) r.rest s l' r.at pen.base pen.parent r.word e h.ready (omega arith);
      same = placing.put_turn (flow base_mode depth_limit depth_limit) r.rest s l' r.at pen.base pen.parent r.word e h.ready (omega arith) h.same;
      few = omega (arith, h.few);
    }

-- ---- a sample: its own descriptor was written, and what it holds has it for its parent
module _ (s l : List ℕ) (at : ℕ) (pen : Pen) (g : Ready s l pen (follow (sample base_mode depth_limit) s (from at))) {a b : ℕ} {l' : List ℕ} (e : a_put a b l' ≡ framed_at 1 0 s at pen l) {f me : ℕ} (u : f ≡ be4 s at) (v : me ≡ index pen) where
  pub sample_inner : Ready s l' (a_pen pen.base me b) (follow (opened (samples base_mode depth_limit) f) s (from (at + 8)))
  sample_inner = rw (v, placing.own_word 1 0 (opened (samples base_mode depth_limit)) s l at pen g 0 e) (placing.frame_inner 1 0 (opened (samples base_mode depth_limit)) s l at pen g 0 e u)

  pub sample_placed : {m : ℕ} {l'' : List ℕ} → filled m l'' ≡ fills (a_pen pen.base me b) (follow (opened (samples base_mode depth_limit) f) s (from (at + 8))) l' → a_put a m l'' ≡ placed pen (follow (sample base_mode depth_limit) s (from at)) l
  sample_placed j = placing.frame_placed 1 0 (opened (samples base_mode depth_limit)) s l at pen g 0 e u refl (rw (v, placing.own_word 1 0 (opened (samples base_mode depth_limit)) s l at pen g 0 e) at j)
