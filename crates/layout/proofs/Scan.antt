-- The first pass over frames: where it has come to, and scripts one after another. Assumes nothing.
use Rattle.std.proofs.Common.{ℕ, suc, ◌+◌, ◌-◌, ◌≡◌, ◌≤◌, ◌<◌, refl, sym, ap, ◌∙◌, List, length, take, arith, length-take-le}
use Rattle.reading.specs.Sizes.{longest_input}
use Rattle.reading.specs.Script.{Span, Value, number, Found, nothing, word, Script, give}
use Rattle.reading.specs.Cursor.{Place, Out, got, stop, read_item, held_to, times, follow}
use Rattle.reading.specs.Layout.{Field, fields, framed}
use Rattle.reading.specs.Answer.{size}
use Rattle.reading.proofs.Items.{never, word_seen}
use Rattle.reading.proofs.Counts.{counted, turn_got, turn_stop, turns_done, resumed, framing, frame_at, frame_held}
use Rattle.reading.proofs.Fields.{fields_out, fields_then}
use Rattle.reading.proofs.Framed.{FramedAt, framing_lies}
use Rattle.reading.proofs.Bounds.{Owes, owes}
use Rattle.reading.proofs.Room.{Thrifty}
use Rattle.xdr.specs.declared.Cursor.{Cursor}
use Rattle.xdr.specs.Shown.{Inside, place}
use Rattle.layout.specs.declared.frames.Frame.{Frame}
use Rattle.layout.specs.Scanned.{Scan}
use Rattle.layout.specs.Shown.{a_frame, first_of}

pub scan_inside : {s : List ℕ} {c : Cursor} {k : ℕ} → Scan s c k → Inside s c
scan_inside g = record { inside = g.inside; counted = g.counted }

pub scan_short : {s : List ℕ} {c : Cursor} {k : ℕ} → Scan s c k → length s ≤ longest_input
scan_short g = g.short

-- ---- where a script ends that passes four bytes for each descriptor

pub record Thrift (sc : Script) : Type 0 where
  pub is : Thrifty (follow sc)

module _ (sc : Script) (t : Thrift sc) (s : List ℕ) (c : Cursor) (k : ℕ) (g : Scan s c k) {d : Cursor} {j : ℕ} where
  pub scan_on : got j (place d) ≡ counted k (follow sc s (place c)) → Scan s d j
  unfolding counted Owes
  scan_on e = go (follow sc s (place c)) refl e
    where
      go : (o : Out Found) → follow sc s (place c) ≡ o → got j (place d) ≡ counted k o → Scan s d j
      go (got a q) f h =
          let z : j ≡ k + size a.ranges = cc in
          let y : place d ≡ q = cc in
          let b = t.is s (place c) a q g.inside f in
          let o = rw f at (owes sc s (place c) g.inside) in
          let i : d.at ≡ q.at = ap (λ (p : Place). p.at) y in
          let l : d.steps ≡ q.steps = ap (λ (p : Place). p.steps) y in
          record { inside = omega (arith, o.1); counted = omega (arith, o.0, o.2, g.counted); few = omega (arith, g.few); short = g.short }
      go (stop x a n) f h = never (sym h)

-- ---- so many in a row: of n, those behind the first i are left
module _ (sc : Script) (s : List ℕ) (c : Cursor) (k : ℕ) {t : Out ℕ} (n i : ℕ) (e : counted k (times (n - i) (follow sc) s (place c)) ≡ t) where
  pub scan_done : n ≤ i → got k (place c) ≡ t
  scan_done z = let y : n - i ≡ 0 = omega arith in turns_done (follow sc) s (place c) k ∙ (rw y at e)

  pub scan_turn : i < n → {d : Cursor} {j : ℕ} → got j (place d) ≡ counted k (follow sc s (place c)) → counted j (times (n - (i + 1)) (follow sc) s (place d)) ≡ t
  scan_turn z f = let y : n - i ≡ suc (n - (i + 1)) = omega arith in sym (turn_got (follow sc) s (place c) k (n - (i + 1)) f) ∙ (rw y at e)

  pub scan_stop : i < n → {x at steps : ℕ} → stop x at steps ≡ counted k (follow sc s (place c)) → stop x at steps ≡ t
  scan_stop z f = let y : n - i ≡ suc (n - (i + 1)) = omega arith in turn_stop (follow sc) s (place c) k (n - (i + 1)) f ∙ (rw y at e)

-- ---- a word that counts what is held behind it
module _ (s : List ℕ) (c : Cursor) (k : ℕ) (g : Scan s c k) {n : ℕ} {d : Cursor} (e : got (number n) (place d) ≡ read_item word s (place c)) where
  seen : (c.at + 4 ≤ length s) × (d.at ≡ c.at + 4) × (d.steps ≡ c.steps + 1)
  seen = let r = word_seen s (place c) e in (r.0, ap (λ (p : Place). p.at) r.2, ap (λ (p : Place). p.steps) r.2)

  pub scan_word : Scan s d k
  scan_word = let r = seen in record { inside = omega (arith, r.0, r.1); counted = omega (arith, r.1, r.2, g.counted); few = omega (arith, r.1, g.few); short = g.short }

  pub scan_count : Scan s d (k + 1)
  scan_count = let r = seen in record { inside = omega (arith, r.0, r.1); counted = omega (arith, r.1, r.2, g.counted); few = omega (arith, r.1, g.few); short = g.short }

-- ---- a frame whose payload is gone into
module _ (s : List ℕ) (c : Cursor) {r : Frame} {d : Cursor} (e : got (a_frame r) (place d) ≡ frame_at s (place c)) where
  lies : FramedAt s (place c) (a_frame r).span (place d)
  lies = framing_lies s (place c) e

  pub frame_ends : r.payload.start + r.payload.count ≤ length s
  frame_ends = let y = lies in omega (arith, y.end, y.fits)

  pub frame_count : (k : ℕ) → Scan s c k → k + 1 ≤ length s
  frame_count k g = let y = lies in omega (arith, y.start, y.end, y.fits, g.few)

  -- in any part of the input that has the payload
  pub frame_scan_in : (m : ℕ) → m ≤ length s → (k : ℕ) → r.payload.start + r.payload.count ≤ m → Scan s c k → Scan (take m s) (first_of r d) (k + 1)
  frame_scan_in m i k j g =
      let y = lies in
      let z = length-take-le m s i in
      record { inside = omega arith; counted = omega (arith, y.start, y.steps, g.counted); few = omega (arith, y.start, g.few); short = omega (arith, g.short) }

  pub frame_scan : (k : ℕ) → Scan s c k → Scan (take (r.payload.start + r.payload.count) s) (first_of r d) (k + 1)
  frame_scan k g = frame_scan_in (r.payload.start + r.payload.count) frame_ends k (omega arith) g

-- ---- what a frame holds, on top of its own descriptor
module _ (kind depth : ℕ) (body : ℕ → Script) (s : List ℕ) (p : Place) (k : ℕ) {f : ℕ} {x : Span} {q : Place} (e : got (framing f x) q ≡ frame_at s p) where
  pub held_stop : {c a n : ℕ} → stop c a n ≡ counted (k + 1) (follow (body f) (held_to x s) (record { at = x.start; steps = q.steps })) → stop c a n ≡ counted k (follow (framed kind depth body) s p)
  unfolding resumed
  held_stop h = rw (← h) at (sym (frame_held kind depth body s p k e))

  pub held_got : {j : ℕ} {r : Place} → got j r ≡ counted (k + 1) (follow (body f) (held_to x s) (record { at = x.start; steps = q.steps })) → got j (record { at = q.at; steps = r.steps }) ≡ counted k (follow (framed kind depth body) s p)
  unfolding resumed
  held_got h = rw (← h) at (sym (frame_held kind depth body s p k e))

-- ---- a row of fields
module _ (l : List Field) (s : List ℕ) (c : Cursor) (k : ℕ) (g : Scan s c k) where
  pub scan_row : {vs : List Value} {d : Cursor} → fields_out l s (place c) ≡ got vs (place d) → Scan s d k
  unfolding Owes follow
  scan_row {vs} {d} e =
      let h : follow (fields l (λ us. give nothing)) s (place c) ≡ got nothing (place d) = fields_then l _ s (place c) ∙ rw e in
      let o = rw h at (owes (fields l (λ us. give nothing)) s (place c) g.inside) in
      record { inside = omega (arith, o.1); counted = omega (arith, o.0, o.2, g.counted); few = omega (arith, o.0, g.few); short = g.short }
