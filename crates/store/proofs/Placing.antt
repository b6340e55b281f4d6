-- What the second pass puts into the store: one reading behind another, a range and what it holds, a frame. A law for each need of a writer,
-- with the facts that the code has there. Assumes nothing.
use Prim.Native.Nat.{ℕ, suc, ◌+◌, ◌*◌, ◌-◌, ◌/◌, ◌≤◌, ◌<◌}
use mathlib.Core.Path.{◌≡◌, refl, sym, ap, ◌∙◌}
use mathlib.Core.List.{List, ◌++◌}
use native.Mathlib.Omega.{arith}
use native.Mathlib.Nat.{add-zero}
use lib.ListN.{length}
use mir.Syntax.{w64}
use mir.Val.{Fits}
use Rattle.reading.specs.Bytes.{be4, padded}
use Rattle.reading.specs.Script.{Range, Forest, bare, tree, ◌⊕◌, Found, Script}
use Rattle.reading.specs.Cursor.{Out, times, follow}
use Rattle.reading.specs.Layout.{framed}
use Rattle.reading.specs.Answer.{size, row_of, rows, from}
use Rattle.reading.specs.Sizes.{descriptor_words}
use Rattle.reading.proofs.Counts.{size_joined}
use Rattle.reading.proofs.Stored.{write, write_length, write_none, write_then, write_under, rows_length, rows_joined, rows_one}
use Rattle.reading.proofs.Places.{ranges_of, end_of, FrameAt, frame_lies, TurnAt, turn_lies, none_lies}
use Rattle.store.specs.declared.Pen.{Pen}
use Rattle.store.specs.Written.{index, Ready, Put, a_pen, held_by, placed, Filled, filled, fills, FramedHere, frame_range, framed_at}

abbrev pub a_put : (at word : ℕ) → List ℕ → Put
a_put a w l = record { at = a; word = w; store = l }

-- what a pass leaves, in its parts
module _ {a b : ℕ} {l' : List ℕ} (pen : Pen) (o : Out Found) (l : List ℕ) (e : a_put a b l' ≡ placed pen o l) where
  pub at_is : a ≡ end_of o
  unfolding placed
  at_is = ap (λ (x : Put). x.at) e

  pub word_is : b ≡ pen.word + descriptor_words * size (ranges_of o)
  unfolding placed
  word_is = ap (λ (x : Put). x.word) e

  pub store_is : l' ≡ write l pen.word (rows (index pen) pen.parent (ranges_of o))
  unfolding placed
  store_is = ap (λ (x : Put). x.store) e

  pub put_kept : length l' ≡ length l
  put_kept = ap length store_is ∙ write_length _ _ _

-- k descriptors on, the index is k more
pub index_on : (w k : ℕ) → (w + descriptor_words * k) / descriptor_words ≡ w / descriptor_words + k
index_on w k = omega arith

-- one forest behind another is placed as the two of them
module _ (base parent word : ℕ) (l : List ℕ) where
  pub two_placed : {a b c m : ℕ} {t : Forest} {l'' : List ℕ} (f r : Forest) → b ≡ c → a ≡ b → t ≡ f ⊕ r → m ≡ word + descriptor_words * size f → l'' ≡ write l word (rows (base + word / descriptor_words) parent f)
      → a_put c (m + descriptor_words * size r) (write l'' m (rows (base + m / descriptor_words) parent r)) ≡ a_put a (word + descriptor_words * size t) (write l word (rows (base + word / descriptor_words) parent t))
  two_placed {a} {b} {c} {m} {t} {l''} f r i j k x y =
      let p : m + descriptor_words * size r ≡ word + descriptor_words * size t = ap (λ (v : ℕ). v + descriptor_words * size r) x ∙ rw (k, size_joined) (omega arith) in
      let q : base + m / descriptor_words ≡ base + word / descriptor_words + size f = rw (x, index_on) (omega arith) in
      let v : m ≡ word + length (rows (base + word / descriptor_words) parent f) = rw rows_length x in
      let d : write l'' m (rows (base + m / descriptor_words) parent r) ≡ write l word (rows (base + word / descriptor_words) parent t) =
      ap (λ (z : List ℕ). write z m (rows (base + m / descriptor_words) parent r)) y
      ∙ write_then (rows (base + word / descriptor_words) parent f) (rows (base + m / descriptor_words) parent r) l word m v
      ∙ ap (λ (z : ℕ). write l word (rows (base + word / descriptor_words) parent f ++ rows z parent r)) q
      ∙ ap (λ (z : List ℕ). write l word z) (sym (rows_joined (base + word / descriptor_words) parent f r))
      ∙ ap (λ (z : Forest). write l word (rows (base + word / descriptor_words) parent z)) (sym k) in
      λ h. record { at = (sym i ∙ sym j) h; word = p h; store = d h }

-- ---- so many in a row
module _ (sc : Script) (n : ℕ) (s l : List ℕ) (at base parent word : ℕ) where
  again : Ready s l (a_pen base parent word) (times n (follow sc) s (from at)) → 0 < n → TurnAt sc (n - 1) s at × (times n (follow sc) s (from at) ≡ times (suc (n - 1)) (follow sc) s (from at))
  again g z =
      let e : n ≡ suc (n - 1) = omega arith in
      (turn_lies sc (n - 1) s at (rw e at g.good), ap (λ (m : ℕ). times m (follow sc) s (from at)) e)

  -- its ranges are the first one's, and the rest's
  split_up : (g : Ready s l (a_pen base parent word) (times n (follow sc) s (from at))) (z : 0 < n)
      → ranges_of (times n (follow sc) s (from at)) ≡ ranges_of (follow sc s (from at)) ⊕ ranges_of (times (n - 1) (follow sc) s (from (end_of (follow sc s (from at)))))
  split_up g z = let t = again g z in ap ranges_of t.1 ∙ t.0.ranges

  sizes : (g : Ready s l (a_pen base parent word) (times n (follow sc) s (from at))) (z : 0 < n)
      → size (ranges_of (times n (follow sc) s (from at))) ≡ size (ranges_of (follow sc s (from at))) + size (ranges_of (times (n - 1) (follow sc) s (from (end_of (follow sc s (from at))))))
  sizes g z = ap size (split_up g z) ∙ size_joined _ _

  pub ready_first : Ready s l (a_pen base parent word) (times n (follow sc) s (from at)) → 0 < n → Ready s l (a_pen base parent word) (follow sc s (from at))
  ready_first g z =
      let t = again g z in
      let k = sizes g z in
      record { short = g.short; good = t.0.first; room = omega (arith, g.room); few = omega (arith, g.few) }

  module _ {a b : ℕ} {l' : List ℕ} (e : a_put a b l' ≡ placed (a_pen base parent word) (follow sc s (from at)) l) (g : Ready s l (a_pen base parent word) (times n (follow sc) s (from at))) (z : 0 < n) where
    end : a ≡ end_of (follow sc s (from at))
    end = at_is (a_pen base parent word) _ l e

    on : b ≡ word + descriptor_words * size (ranges_of (follow sc s (from at)))
    on = word_is (a_pen base parent word) _ l e

    pub ready_next : Ready s l' (a_pen base parent b) (times (n - 1) (follow sc) s (from a))
    ready_next =
        let t = again g z in
        let k = sizes g z in
        let h = put_kept (a_pen base parent word) _ l e in
        let j = on in
        rw end (record { short = g.short; good = t.0.rest; room = omega (arith, g.room); few = omega (arith, g.few) })

    pub put_turn : {u : Put} → placed (a_pen base parent word) (times n (follow sc) s (from at)) l ≡ u → placed (a_pen base parent b) (times (n - 1) (follow sc) s (from a)) l' ≡ u
    unfolding placed
    put_turn {u} h = rw end (two_placed base parent word l (ranges_of (follow sc s (from at))) (ranges_of (times (n - 1) (follow sc) s (from (end_of (follow sc s (from at)))))) (again g z).0.end (ap end_of (again g z).1) (split_up g z) on (store_is (a_pen base parent word) _ l e)) ∙ h

  pub put_done : {u : Put} → placed (a_pen base parent word) (times n (follow sc) s (from at)) l ≡ u → n ≤ 0 → a_put at word l ≡ u
  unfolding placed size rows
  put_done {u} h z =
      let y : n ≡ 0 = omega arith in
      let x = none_lies sc s at in
      let e : a_put at word l ≡ placed (a_pen base parent word) (times 0 (follow sc) s (from at)) l =
      sym (rw (x.0, x.1, add-zero, write_none)) in
      e ∙ (rw y at h)

-- ---- one range: its own words, and what it holds behind them
module _ (l : List ℕ) (base parent word : ℕ) (r : Range) (inner : Forest) where
  abbrev words_of : List ℕ
  words_of = row_of parent r

  -- what it holds, as it is written behind its own words
  abbrev held : List ℕ
  held = rows (index (held_by base word)) (base + word / descriptor_words) inner

  both_written : write l word (words_of ++ held) ≡ write l word (rows (base + word / descriptor_words) parent (tree r inner bare))
  both_written =
      let k : base + (word + descriptor_words) / descriptor_words ≡ base + word / descriptor_words + 1 = omega arith in
      ap (λ (z : ℕ). write l word (words_of ++ rows z (base + word / descriptor_words) inner)) k ∙ ap (λ (z : List ℕ). write l word z) (sym (rows_one (base + word / descriptor_words) parent r inner))

  -- first its own
  own_first : {l' l'' : List ℕ} → l' ≡ write l word words_of → l'' ≡ write l' (word + descriptor_words) held → l'' ≡ write l word (rows (base + word / descriptor_words) parent (tree r inner bare))
  own_first h q = q ∙ ap (λ (z : List ℕ). write z (word + descriptor_words) held) h ∙ write_then words_of held l word (word + descriptor_words) refl ∙ both_written

  -- or its own last
  pub own_last : {l' l'' : List ℕ} → l' ≡ write l (word + descriptor_words) held → l'' ≡ write l' word words_of → l'' ≡ write l word (rows (base + word / descriptor_words) parent (tree r inner bare))
  own_last h q = q ∙ ap (λ (z : List ℕ). write z word words_of) h ∙ write_under words_of held l word (word + descriptor_words) refl ∙ both_written

-- ---- a frame: its format word, its opaque, and what that holds
module _ (kind depth : ℕ) (body : ℕ → Script) (s l : List ℕ) (at : ℕ) (pen : Pen) (g : Ready s l pen (follow (framed kind depth body) s (from at))) where
  frame : FrameAt kind depth body s at
  frame = frame_lies kind depth body s at g.good

  frame_size : size (ranges_of (follow (framed kind depth body) s (from at))) ≡ 1 + size (ranges_of (follow (body (be4 s at)) s (from (at + 8))))
  unfolding size
  frame_size = ap size frame.ranges ∙ add-zero _

  pub frame_here : FramedHere s l at pen
  frame_here = let k = frame_size in record { fits = frame.fits; short = g.short; room = omega (arith, g.room); few = omega (arith, g.few) }

  pub frame_word : at + 4 ≤ length s
  frame_word = omega (arith, frame.fits)

  pub frame_in : at + 8 ≤ length s
  frame_in = omega (arith, frame.fits)

  pub frame_start : Fits w64 (at + 8)
  frame_start = record { fits = omega (arith, frame.fits, g.short) }

  -- its own descriptor was written
  module _ (d : ℕ) {a b : ℕ} {l' : List ℕ} (e : a_put a b l' ≡ framed_at kind d s at pen l) where
    own_at : a ≡ at + 8 + padded (be4 s (at + 4))
    unfolding framed_at
    own_at = ap (λ (x : Put). x.at) e

    pub own_word : b ≡ pen.word + descriptor_words
    unfolding framed_at
    own_word = ap (λ (x : Put). x.word) e

    own_store : l' ≡ write l pen.word (row_of pen.parent (frame_range kind d s at))
    unfolding framed_at
    own_store = ap (λ (x : Put). x.store) e

    pub frame_kept : length l' ≡ length l
    frame_kept = ap length own_store ∙ write_length _ _ _

    module _ {f : ℕ} (u : f ≡ be4 s at) where
      pub frame_inner : Ready s l' (held_by pen.base pen.word) (follow (body f) s (from (at + 8)))
      frame_inner =
          let k = frame_size in
          let m = frame_kept in
          rw u (record { short = g.short; good = frame.inner; room = omega (arith, g.room); few = omega (arith, g.few) })

      -- and what it holds, with it as the parent
      pub frame_placed : {m : ℕ} {l'' : List ℕ} → d ≡ depth → filled m l'' ≡ fills (held_by pen.base pen.word) (follow (body f) s (from (at + 8))) l'
          → a_put a m l'' ≡ placed pen (follow (framed kind depth body) s (from at)) l
      unfolding placed fills
      frame_placed {m} {l''} i j =
          let r : Range = frame_range kind depth s at in
          let o : Forest = ranges_of (follow (body (be4 s at)) s (from (at + 8))) in
          let y : l' ≡ write l pen.word (row_of pen.parent (frame_range kind depth s at)) = rw i at own_store in
          let z : l'' ≡ write l' (pen.word + descriptor_words) (rows (index (held_by pen.base pen.word)) (index pen) o) = rw u at (ap (λ (x : Filled). x.store) j) in
          let n : m ≡ pen.word + descriptor_words + descriptor_words * size o = rw u at (ap (λ (x : Filled). x.word) j) in
          let x : a ≡ end_of (follow (framed kind depth body) s (from at)) = own_at ∙ sym frame.end in
          let t : m ≡ pen.word + descriptor_words * size (ranges_of (follow (framed kind depth body) s (from at))) = n ∙ rw frame_size (omega arith) in
          let w : l'' ≡ write l pen.word (rows (index pen) pen.parent (ranges_of (follow (framed kind depth body) s (from at)))) =
          own_first l pen.base pen.parent pen.word r o y z ∙ ap (λ (x : Forest). write l pen.word (rows (index pen) pen.parent x)) (sym frame.ranges) in
          λ h. record { at = x h; word = t h; store = w h }

-- where nothing is found nothing is written
pub nothing_more : (o : Out Found) (pen : Pen) (l : List ℕ) → ranges_of o ≡ bare → filled pen.word l ≡ fills pen o l
unfolding fills placed size rows
nothing_more o pen l e = sym (rw (e, add-zero, write_none))

-- a frame that holds nothing of its own
pub frame_alone : (kind depth : ℕ) (body : ℕ → Script) (s l : List ℕ) (at : ℕ) (pen : Pen) (g : Ready s l pen (follow (framed kind depth body) s (from at))) (d : ℕ) {a b : ℕ} {l' : List ℕ}
    (e : a_put a b l' ≡ framed_at kind d s at pen l) → d ≡ depth → ranges_of (follow (body (be4 s at)) s (from (at + 8))) ≡ bare → a_put a b l' ≡ placed pen (follow (framed kind depth body) s (from at)) l
frame_alone kind depth body s l at pen g d {a} {b} {l'} e i z =
    ap (λ (w : ℕ). a_put a w l') (own_word kind depth body s l at pen g d e)
    ∙ frame_placed kind depth body s l at pen g d e refl i (nothing_more (follow (body (be4 s at)) s (from (at + 8))) (held_by pen.base pen.word) l' z)
