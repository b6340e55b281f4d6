-- The second pass over flow records: a law for each need of its functions, with the facts that the code has there. Assumes nothing.
use Prim.Native.Nat.{ℕ, zero, suc, ◌+◌, ◌*◌, ◌-◌, ◌/◌, ◌≤◌, ◌<◌}
use mathlib.Core.Path.{◌≡◌, sym, ap, ◌∙◌}
use mathlib.Core.List.{List}
use native.Mathlib.Omega.{arith}
use native.Mathlib.Nat.{add-zero}
use lib.ListN.{length}
use mir.Syntax.{w32, w64}
use mir.Val.{Fits}
use Rattle.reading.specs.Bytes.{be4}
use Rattle.reading.specs.Script.{Range, Forest, bare, tree, Found, Script}
use Rattle.reading.specs.Cursor.{Out, times, follow}
use Rattle.reading.specs.Layout.{base as base_mode, words, last_number, opened, ranged, between, framed, flows, flow, pdu}
use Rattle.reading.specs.Answer.{size, row_of, rows, from}
use Rattle.reading.specs.Sizes.{descriptor_words, depth_limit}
use Rattle.reading.proofs.Words.{numbers, row_got}
use Rattle.reading.proofs.Stored.{write}
use Rattle.reading.proofs.Places.{Accepted, ranges_of, end_of, stopped, PduAt, pdu_lies, EachAt, each_lies, words_lie}
use Rattle.reading.proofs.Flat.{other_bare}
use Rattle.reading.proofs.Forward.{forward_times}
use Rattle.store.specs.declared.Pen.{Pen}
use Rattle.store.specs.Written.{index, Ready, a_pen, held_by, placed, filled, fills, FramedHere, framed_at}
use Rattle.store.proofs.Placing.{a_put, at_is, word_is, store_is, put_kept, ready_first, own_last, frame_here, frame_word, frame_in, frame_start, frame_inner, frame_placed, frame_alone}

-- ---- the first of some PDUs
module _ (left : ℕ) (s l : List ℕ) (at base parent word rest : ℕ) (g : Ready s l (a_pen base parent word) (times rest (follow (pdu (depth_limit - left) (flow base_mode depth_limit left))) s (from at))) (z : 0 < rest) where
  one : Ready s l (a_pen base parent word) (follow (pdu (depth_limit - left) (flow base_mode depth_limit left)) s (from at))
  one = ready_first (pdu (depth_limit - left) (flow base_mode depth_limit left)) rest s l at base parent word g z

  pdu_at : PduAt (depth_limit - left) (flow base_mode depth_limit left) s at
  pdu_at = pdu_lies (depth_limit - left) (flow base_mode depth_limit left) s at one.good

  pub pdu_word : at + 4 ≤ length s
  pdu_word = pdu_at.fits

  pub pdu_start : Fits w64 (at + 4)
  pdu_start = record { fits = omega (arith, pdu_word, g.short) }

  pub pdu_start32 : Fits w32 (at + 4)
  pdu_start32 = record { fits = omega (arith, pdu_word, g.short) }

  pub pdu_first32 : Fits w32 at
  pdu_first32 = record { fits = omega (arith, pdu_word, g.short) }

  pdu_size : size (ranges_of (follow (pdu (depth_limit - left) (flow base_mode depth_limit left)) s (from at))) ≡ 1 + size (ranges_of (times (be4 s at) (follow (flow base_mode depth_limit left)) s (from (at + 4))))
  unfolding size
  pdu_size = ap size pdu_at.ranges ∙ add-zero _

  module _ {n me : ℕ} (v : n ≡ be4 s at) (u : me ≡ base + word / descriptor_words) where
    pub pdu_inner : Ready s l (a_pen base me (word + descriptor_words)) (times n (follow (flow base_mode depth_limit left)) s (from (at + 4)))
    pdu_inner =
        let k = pdu_size in
        rw v (record { short = g.short; good = pdu_at.inner; room = omega (arith, one.room); few = omega (arith, one.few) })

    -- its records were written, with it as their parent
    module _ {a b : ℕ} {l' : List ℕ} (e : a_put a b l' ≡ placed (a_pen base me (word + descriptor_words)) (times n (follow (flow base_mode depth_limit left)) s (from (at + 4))) l) where
      pdu_end : (at + 4 ≤ a) × (a ≤ length s)
      pdu_end =
          let f = forward_times (flow base_mode depth_limit left) n s (at + 4) pdu_word pdu_inner.good in
          let k = at_is (a_pen base me (word + descriptor_words)) _ l e in
          (omega (arith, f.0), omega (arith, f.1))

      pub pdu_forward : at + 4 ≤ a
      pdu_forward = pdu_end.0

      pub pdu_length32 : Fits w32 (a - (at + 4))
      pdu_length32 = record { fits = omega (arith, pdu_end.1, g.short) }

      pub pdu_own : word + descriptor_words ≤ length l'
      pdu_own = let k = pdu_size in omega (arith, one.room, put_kept (a_pen base me (word + descriptor_words)) _ l e)

      abbrev own_range : Range
      own_range = record { kind = 4; format = 0; span = between (at + 4) a; depth = depth_limit - left; first = at }

      -- and then its own descriptor
      module _ {l'' : List ℕ} (q : l'' ≡ write l' word (row_of parent own_range)) where
        pub pdu_placed : a_put a b l'' ≡ placed (a_pen base parent word) (follow (pdu (depth_limit - left) (flow base_mode depth_limit left)) s (from at)) l
        unfolding placed
        pdu_placed =
            let i : a ≡ end_of (times (be4 s at) (follow (flow base_mode depth_limit left)) s (from (at + 4))) = rw v at (at_is (a_pen base me (word + descriptor_words)) _ l e) in
            let j : b ≡ word + descriptor_words + descriptor_words * size (ranges_of (times (be4 s at) (follow (flow base_mode depth_limit left)) s (from (at + 4)))) = rw v at (word_is (a_pen base me (word + descriptor_words)) _ l e) in
            let k : l' ≡ write l (word + descriptor_words) (rows (index (held_by base word)) (base + word / descriptor_words) (ranges_of (times (be4 s at) (follow (flow base_mode depth_limit left)) s (from (at + 4))))) = rw (v, u) at (store_is (a_pen base me (word + descriptor_words)) _ l e) in
            let t : tree own_range (ranges_of (times (be4 s at) (follow (flow base_mode depth_limit left)) s (from (at + 4)))) bare ≡ ranges_of (follow (pdu (depth_limit - left) (flow base_mode depth_limit left)) s (from at)) =
            ap (λ (m : ℕ). ranged 4 0 (depth_limit - left) at (between (at + 4) m) (ranges_of (times (be4 s at) (follow (flow base_mode depth_limit left)) s (from (at + 4))))) i ∙ sym pdu_at.ranges in
            let x : a ≡ end_of (follow (pdu (depth_limit - left) (flow base_mode depth_limit left)) s (from at)) = i ∙ sym pdu_at.end in
            let y : b ≡ word + descriptor_words * size (ranges_of (follow (pdu (depth_limit - left) (flow base_mode depth_limit left)) s (from at))) = j ∙ rw pdu_size (omega arith) in
            let d : l'' ≡ write l word (rows (base + word / descriptor_words) parent (ranges_of (follow (pdu (depth_limit - left) (flow base_mode depth_limit left)) s (from at)))) =
            own_last l base parent word own_range (ranges_of (times (be4 s at) (follow (flow base_mode depth_limit left)) s (from (at + 4)))) k q
            ∙ ap (λ (x : Forest). write l word (rows (base + word / descriptor_words) parent x)) t in
            λ h. record { at = x h; word = y h; store = d h }

-- ---- what a record holds
abbrev holds : ℕ → ℕ → Script
holds left f = opened (flows base_mode (pdu (depth_limit - left) (flow base_mode depth_limit left))) f

-- an aggregation, whose own descriptor is at a word: its PDU count, and its PDUs
module _ (left : ℕ) (s l : List ℕ) (at base word : ℕ) (g : Ready s l (held_by base word) (follow (opened (flows base_mode (pdu (depth_limit - left) (flow base_mode depth_limit left))) 1016) s (from at))) (i : at ≤ length s) where
  pub data_word : at + 4 ≤ length s
  unfolding opened flows
  data_word = words_lie 1 _ s at i g.good

  pub data_start : Fits w64 (at + 4)
  data_start = record { fits = omega (arith, data_word, g.short) }

  pdus : EachAt (words 1) (pdu (depth_limit - left) (flow base_mode depth_limit left)) s at (numbers 1 s at) (record { at = at + 4; steps = 1 })
  unfolding opened flows
  pdus = each_lies (words 1) (pdu (depth_limit - left) (flow base_mode depth_limit left)) s at (row_got s 1 (from at) data_word) g.good

  same_ranges : ranges_of (follow (opened (flows base_mode (pdu (depth_limit - left) (flow base_mode depth_limit left))) 1016) s (from at)) ≡ ranges_of (times (be4 s at) (follow (pdu (depth_limit - left) (flow base_mode depth_limit left))) s (from (at + 4)))
  unfolding opened flows last_number
  same_ranges = pdus.ranges

  module _ {n me : ℕ} (v : n ≡ be4 s at) (u : me ≡ base + word / descriptor_words) where
    pub data_inner : Ready s l (a_pen base me (word + descriptor_words)) (times n (follow (pdu (depth_limit - left) (flow base_mode depth_limit left))) s (from (at + 4)))
    unfolding last_number
    data_inner =
        let k = ap size same_ranges in
        rw v (record { short = g.short; good = pdus.inner; room = omega (arith, g.room); few = omega (arith, g.few) })

    pub data_filled : {a b : ℕ} {l' : List ℕ} → a_put a b l' ≡ placed (a_pen base me (word + descriptor_words)) (times n (follow (pdu (depth_limit - left) (flow base_mode depth_limit left))) s (from (at + 4))) l
        → filled b l' ≡ fills (held_by base word) (follow (opened (flows base_mode (pdu (depth_limit - left) (flow base_mode depth_limit left))) 1016) s (from at)) l
    unfolding fills placed
    data_filled {a} {b} {l'} e =
        let f : a_put a b l' ≡ placed (held_by base word) (times n (follow (pdu (depth_limit - left) (flow base_mode depth_limit left))) s (from (at + 4))) l = rw u at e in
        let x = word_is (held_by base word) _ l f in
        let y = store_is (held_by base word) _ l f in
        rw same_ranges (rw (← v) (λ h. record { word = x h; store = y h }))

-- ---- a flow record: a frame, where a level is left
module _ (left : ℕ) (s l : List ℕ) (at : ℕ) (pen : Pen) (g : Ready s l pen (follow (flow base_mode depth_limit left) s (from at))) where
  pub record_some : 1 ≤ left
  unfolding flow follow
  record_some = go left g.good
    where
      go : (k : ℕ) → Accepted (follow (flow base_mode depth_limit k) s (from at)) → 1 ≤ k
      go zero h = absurd (stopped h)
      go (suc k) h = omega arith

  is : follow (flow base_mode depth_limit left) s (from at) ≡ follow (framed 2 (8 - (left - 1)) (holds (left - 1))) s (from at)
  unfolding flow
  is = let j : left ≡ suc (left - 1) = omega (arith, record_some) in ap (λ (m : ℕ). follow (flow base_mode depth_limit m) s (from at)) j

  ready : Ready s l pen (follow (framed 2 (8 - (left - 1)) (holds (left - 1))) s (from at))
  ready = rw is at g

  same_depth : depth_limit + 1 - left ≡ depth_limit - (left - 1)
  same_depth = omega (arith, record_some)

  pub record_here : FramedHere s l at pen
  record_here = frame_here 2 (8 - (left - 1)) (holds (left - 1)) s l at pen ready

  pub record_word : at + 4 ≤ length s
  record_word = frame_word 2 (8 - (left - 1)) (holds (left - 1)) s l at pen ready

  pub record_in : at + 8 ≤ length s
  record_in = frame_in 2 (8 - (left - 1)) (holds (left - 1)) s l at pen ready

  pub record_start : Fits w64 (at + 8)
  record_start = frame_start 2 (8 - (left - 1)) (holds (left - 1)) s l at pen ready

  -- its own descriptor was written
  module _ (d : ℕ) {a b : ℕ} {l' : List ℕ} (q : d ≡ depth_limit + 1 - left) (e : a_put a b l' ≡ framed_at 2 d s at pen l) {f : ℕ} (u : f ≡ be4 s at) where
    pub record_flat : (f ≡ 1016 → ⊥) → a_put a b l' ≡ placed pen (follow (flow base_mode depth_limit left) s (from at)) l
    record_flat z =
        frame_alone 2 (8 - (left - 1)) (holds (left - 1)) s l at pen ready d e (q ∙ same_depth) (other_bare base_mode (pdu (8 - (left - 1)) (flow base_mode depth_limit (left - 1))) (be4 s at) s (from (at + 8)) (rw u at z))
        ∙ ap (λ (o : Out Found). placed pen o l) (sym is)

    pub record_inner : f ≡ 1016 → Ready s l' (held_by pen.base pen.word) (follow (opened (flows base_mode (pdu (8 - (left - 1)) (flow base_mode depth_limit (left - 1)))) 1016) s (from (at + 8)))
    record_inner z = frame_inner 2 (8 - (left - 1)) (holds (left - 1)) s l at pen ready d e (sym z ∙ u)

    pub record_placed : f ≡ 1016 → {m : ℕ} {l'' : List ℕ} → filled m l'' ≡ fills (held_by pen.base pen.word) (follow (opened (flows base_mode (pdu (8 - (left - 1)) (flow base_mode depth_limit (left - 1)))) 1016) s (from (at + 8))) l'
        → a_put a m l'' ≡ placed pen (follow (flow base_mode depth_limit left) s (from at)) l
    record_placed z j = frame_placed 2 (8 - (left - 1)) (holds (left - 1)) s l at pen ready d e (sym z ∙ u) (q ∙ same_depth) j ∙ ap (λ (o : Out Found). placed pen o l) (sym is)

pub one_less : {left : ℕ} → left ≤ depth_limit → left - 1 ≤ depth_limit
one_less h = omega arith
