-- Where the ranges of an accepted reading lie, frame by frame: what a second pass writes, which looks at frames alone. Assumes nothing.
use Prim.Native.Nat.{ℕ, zero, suc, ◌+◌, ◌*◌, ◌-◌, ◌/◌, ◌≤◌}
use mathlib.Core.Path.{◌≡◌, refl, sym, ap, ◌∙◌, subst}
use mathlib.Core.Bool.{Bool, true, false}
use mathlib.Core.List.{List}
use native.Mathlib.Omega.{arith}
use borrow.Author.Tests.{leb-true, leb-false}
use lib.Dec.{leb}
use lib.ListN.{length, take}
use Rattle.reading.specs.Bytes.{be4, padded}
use Rattle.reading.specs.Script.{Span, Value, Forest, bare, ◌⊕◌, Found, ◌⊞◌, Script, give, repeat}
use Rattle.reading.specs.Cursor.{Place, Out, got, stop, then, times, held_to, follow}
use Rattle.reading.specs.Layout.{Field, fields, last_number, words, ranged, between, framed, pdu}
use Rattle.reading.specs.Answer.{from}
use Rattle.reading.proofs.Exactly.{longer}
use Rattle.reading.proofs.Items.{never, split}
use Rattle.reading.proofs.Stands.{place}
use Rattle.reading.proofs.Steps.{Alike, both_got, both_stop, steady, steady_times}
use Rattle.reading.proofs.Fields.{fields_out, fields_then}
use Rattle.reading.proofs.Words.{row_stop}
use Rattle.reading.proofs.Counts.{repeat_is}
use Rattle.reading.proofs.Frames.{Frame, frame_read, Pdu, pdu_read}

pub data Accepted : Out Found → Type 0 where
  accepted : {a : Found} {q : Place} → Accepted (got a q)

-- the ranges that were found, and where the reading ends
unfoldable pub ranges_of : Out Found → Forest
ranges_of (got a q) = a.ranges
ranges_of (stop c a n) = bare

unfoldable pub end_of : Out Found → ℕ
end_of (got a q) = q.at
end_of (stop c a n) = 0

-- an accepted reading, in full
pub record Given (o : Out Found) : Type 0 where
  pub found : Found
  pub last : Place
  pub is : o ≡ got found last

pub given : (o : Out Found) → Accepted o → Given o
given (got a q) accepted = record { found = a; last = q; is = refl }
given (stop c a n) h = elim h [ ]

-- the same, whatever the steps before it
pub alike_accepted : {o u : Out Found} → Alike o u → Accepted o → Accepted u
alike_accepted (both_got e) accepted = accepted
alike_accepted both_stop h = elim h [ ]

pub alike_ranges : {o u : Out Found} → Alike o u → ranges_of o ≡ ranges_of u
unfolding ranges_of
alike_ranges (both_got e) = refl
alike_ranges both_stop = refl

pub alike_end : {o u : Out Found} → Alike o u → Accepted o → end_of o ≡ end_of u
unfolding end_of
alike_end (both_got e) accepted = e
alike_end both_stop h = elim h [ ]

-- ---- a frame: what it holds is read so in the whole input too
pub record FrameAt (kind depth : ℕ) (body : ℕ → Script) (s : List ℕ) (at : ℕ) : Type 0 where
  pub fits : at + 8 + padded (be4 s (at + 4)) ≤ length s
  pub inner : Accepted (follow (body (be4 s at)) s (from (at + 8)))
  pub ranges : ranges_of (follow (framed kind depth body) s (from at))
      ≡ ranged kind (be4 s at) depth at (record { start = at + 8; count = be4 s (at + 4) }) (ranges_of (follow (body (be4 s at)) s (from (at + 8))))
  pub end : end_of (follow (framed kind depth body) s (from at)) ≡ at + 8 + padded (be4 s (at + 4))

module _ (kind depth : ℕ) (body : ℕ → Script) (s : List ℕ) (at : ℕ) where
  frame_from : (a : Found) (q : Place) → Frame kind depth body s (from at) a q → follow (framed kind depth body) s (from at) ≡ got a q → FrameAt kind depth body s at
  unfolding ranges_of end_of
  frame_from a q f e =
      let n : f.span.count ≡ be4 s (at + 4) = sym f.count in
      let x : f.span ≡ record { start = at + 8; count = be4 s (at + 4) } = λ i. record { start = f.start i; count = n i } in
      let k : Alike (follow (body f.format) (held_to f.span s) (place f.span.start f.steps)) (follow (body f.format) (held_to f.span s) (from f.span.start)) = steady (body f.format) _ _ _ refl in
      let g : Accepted (follow (body f.format) (held_to f.span s) (from f.span.start)) = alike_accepted k (subst Accepted (sym f.held) accepted) in
      let r : f.inner.ranges ≡ ranges_of (follow (body f.format) (held_to f.span s) (from f.span.start)) = ap ranges_of (sym f.held) ∙ alike_ranges k in
      moved f.format f.span f.format_is x (rw n at f.fits) g
      (ap ranges_of e ∙ ap (λ (b : Found). b.ranges) f.found ∙ ap (λ (t : Forest). ranged kind f.format depth at f.span t) r)
      (ap end_of e ∙ f.end ∙ ap (λ (m : ℕ). at + 8 + padded m) n)
    where
      moved : (format : ℕ) (span : Span) → format ≡ be4 s at → span ≡ record { start = at + 8; count = be4 s (at + 4) }
          → at + 8 + padded (be4 s (at + 4)) ≤ length s
          → Accepted (follow (body format) (held_to span s) (from span.start))
          → ranges_of (follow (framed kind depth body) s (from at)) ≡ ranged kind format depth at span (ranges_of (follow (body format) (held_to span s) (from span.start)))
          → end_of (follow (framed kind depth body) s (from at)) ≡ at + 8 + padded (be4 s (at + 4))
          → FrameAt kind depth body s at
      moved format span u v h g r t =
          let n : ℕ = at + 8 + be4 s (at + 4) in
          let i : Accepted (follow (body (be4 s at)) (take n s) (from (at + 8))) = rw (u, v) at g in
          let a = given (follow (body (be4 s at)) (take n s) (from (at + 8))) i in
          let e : follow (body (be4 s at)) s (from (at + 8)) ≡ follow (body (be4 s at)) (take n s) (from (at + 8)) =
          longer (body (be4 s at)) s n (from (at + 8)) (omega (arith, h)) (omega arith) a.is ∙ sym a.is in
          record {
            fits = h;
            inner = rw e i;
            ranges = rw e (rw (u, v) at r);
            end = t;
          }

  pub frame_lies : Accepted (follow (framed kind depth body) s (from at)) → FrameAt kind depth body s at
  frame_lies h = let g = given (follow (framed kind depth body) s (from at)) h in frame_from g.found g.last (frame_read kind depth body s (from at) g.is) g.is

-- ---- so many in a row
pub record TurnAt (sc : Script) (n : ℕ) (s : List ℕ) (at : ℕ) : Type 0 where
  pub first : Accepted (follow sc s (from at))
  pub rest : Accepted (times n (follow sc) s (from (end_of (follow sc s (from at)))))
  pub ranges : ranges_of (times (suc n) (follow sc) s (from at)) ≡ ranges_of (follow sc s (from at)) ⊕ ranges_of (times n (follow sc) s (from (end_of (follow sc s (from at)))))
  pub end : end_of (times (suc n) (follow sc) s (from at)) ≡ end_of (times n (follow sc) s (from (end_of (follow sc s (from at)))))

module _ (sc : Script) (n : ℕ) (s : List ℕ) (at : ℕ) where
  turn_from : (a : Found) (p : Place) (b : Found) (q : Place) → follow sc s (from at) ≡ got a p → times n (follow sc) s p ≡ got b q
      → times (suc n) (follow sc) s (from at) ≡ got (a ⊞ b) q → TurnAt sc n s at
  unfolding ranges_of end_of
  turn_from a p b q e f g =
      let i : end_of (follow sc s (from at)) ≡ p.at = ap end_of e in
      let k : Alike (times n (follow sc) s p) (times n (follow sc) s (from p.at)) = steady_times sc s n p (from p.at) refl in
      let x : Accepted (times n (follow sc) s (from p.at)) = alike_accepted k (subst Accepted (sym f) accepted) in
      let y : b.ranges ≡ ranges_of (times n (follow sc) s (from p.at)) = ap ranges_of (sym f) ∙ alike_ranges k in
      let z : q.at ≡ end_of (times n (follow sc) s (from p.at)) = ap end_of (sym f) ∙ alike_end k (subst Accepted (sym f) accepted) in
      record {
        first = subst Accepted (sym e) accepted;
        rest = rw i x;
        ranges = ap ranges_of g ∙ rw i (rw (ap ranges_of e) (ap (λ (t : Forest). a.ranges ⊕ t) y));
        end = ap end_of g ∙ rw i z;
      }

  turn_is : {a : Found} {p : Place} {b : Found} {q : Place} → follow sc s (from at) ≡ got a p → times n (follow sc) s p ≡ got b q → times (suc n) (follow sc) s (from at) ≡ got (a ⊞ b) q
  unfolding times
  turn_is e f = rw (e, f)

  pub turn_lies : Accepted (times (suc n) (follow sc) s (from at)) → TurnAt sc n s at
  unfolding times
  turn_lies h =
      let g = given (times (suc n) (follow sc) s (from at)) h in
      let w = split (follow sc s (from at)) _ g.is in
      let v = split (times n (follow sc) s w.place) _ w.second in
      turn_from w.value w.place v.value v.place w.first v.first (turn_is w.first v.first)

-- none in a row
pub none_lies : (sc : Script) (s : List ℕ) (at : ℕ) → (ranges_of (times zero (follow sc) s (from at)) ≡ bare) × (end_of (times zero (follow sc) s (from at)) ≡ at)
unfolding times ranges_of end_of
none_lies sc s at = (refl, refl)

-- ---- a PDU
pub record PduAt (depth : ℕ) (body : Script) (s : List ℕ) (at : ℕ) : Type 0 where
  pub fits : at + 4 ≤ length s
  pub inner : Accepted (times (be4 s at) (follow body) s (from (at + 4)))
  pub ranges : ranges_of (follow (pdu depth body) s (from at)) ≡ ranged 4 0 depth at (between (at + 4) (end_of (times (be4 s at) (follow body) s (from (at + 4))))) (ranges_of (times (be4 s at) (follow body) s (from (at + 4))))
  pub end : end_of (follow (pdu depth body) s (from at)) ≡ end_of (times (be4 s at) (follow body) s (from (at + 4)))

module _ (depth : ℕ) (body : Script) (s : List ℕ) (at : ℕ) where
  pdu_from : (a : Found) (q : Place) → Pdu depth body s (from at) a q → follow (pdu depth body) s (from at) ≡ got a q → PduAt depth body s at
  unfolding ranges_of end_of
  pdu_from a q f e =
      let k : Alike (times f.count (follow body) s f.first) (times f.count (follow body) s (from (at + 4))) = steady_times body s f.count f.first (from (at + 4)) f.start in
      let x : Accepted (times f.count (follow body) s (from (at + 4))) = alike_accepted k (subst Accepted (sym f.held) accepted) in
      let y : f.inner.ranges ≡ ranges_of (times f.count (follow body) s (from (at + 4))) = ap ranges_of (sym f.held) ∙ alike_ranges k in
      let z : q.at ≡ end_of (times f.count (follow body) s (from (at + 4))) = ap end_of (sym f.held) ∙ alike_end k (subst Accepted (sym f.held) accepted) in
      moved f.count f.count_is f.fits x
      (ap ranges_of e ∙ ap (λ (b : Found). b.ranges) f.found ∙ cc' f.first.at q.at f.inner.ranges f.start z y)
      (ap end_of e ∙ z)
    where
      cc' : {i m : ℕ} {t : Forest} (h j : ℕ) (u : Forest) → h ≡ i → j ≡ m → u ≡ t → ranged 4 0 depth at (between h j) u ≡ ranged 4 0 depth at (between i m) t
      cc' h j u e f g = rw (e, f, g)

      moved : (n : ℕ) → n ≡ be4 s at → at + 4 ≤ length s → Accepted (times n (follow body) s (from (at + 4)))
          → ranges_of (follow (pdu depth body) s (from at)) ≡ ranged 4 0 depth at (between (at + 4) (end_of (times n (follow body) s (from (at + 4))))) (ranges_of (times n (follow body) s (from (at + 4))))
          → end_of (follow (pdu depth body) s (from at)) ≡ end_of (times n (follow body) s (from (at + 4)))
          → PduAt depth body s at
      moved n u h x r t = record { fits = h; inner = rw u at x; ranges = rw u at r; end = rw u at t }

  pub pdu_lies : Accepted (follow (pdu depth body) s (from at)) → PduAt depth body s at
  pdu_lies h = let g = given (follow (pdu depth body) s (from at)) h in pdu_from g.found g.last (pdu_read depth body s (from at) g.is) g.is

-- ---- fields of which the last counts what follows
pub record EachAt (l : List Field) (body : Script) (s : List ℕ) (at : ℕ) (vs : List Value) (q : Place) : Type 0 where
  pub inner : Accepted (times (last_number vs) (follow body) s (from q.at))
  pub ranges : ranges_of (follow (fields l (λ us. repeat (last_number us) body (λ a. give a))) s (from at)) ≡ ranges_of (times (last_number vs) (follow body) s (from q.at))
  pub end : end_of (follow (fields l (λ us. repeat (last_number us) body (λ a. give a))) s (from at)) ≡ end_of (times (last_number vs) (follow body) s (from q.at))

module _ (l : List Field) (body : Script) (s : List ℕ) (at : ℕ) {vs : List Value} {q : Place} (e : fields_out l s (from at) ≡ got vs q) where
  each_is : follow (fields l (λ us. repeat (last_number us) body (λ a. give a))) s (from at) ≡ times (last_number vs) (follow body) s q
  each_is = fields_then l _ s (from at) ∙ rw e (repeat_is (last_number vs) body s q)

  pub each_lies : Accepted (follow (fields l (λ us. repeat (last_number us) body (λ a. give a))) s (from at)) → EachAt l body s at vs q
  each_lies h =
      let k : Alike (times (last_number vs) (follow body) s q) (times (last_number vs) (follow body) s (from q.at)) = steady_times body s (last_number vs) q (from q.at) refl in
      let g : Accepted (times (last_number vs) (follow body) s q) = rw each_is at h in
      record { inner = alike_accepted k g; ranges = ap ranges_of each_is ∙ alike_ranges k; end = ap end_of each_is ∙ alike_end k g }

-- the words of a row that was accepted are there
pub stopped : {c a n : ℕ} → Accepted (stop c a n) → ⊥
stopped {c} {a} {n} h = let g = given (stop c a n) h in never g.is

pub words_lie : (n : ℕ) (more : List Value → Script) (s : List ℕ) (at : ℕ) → at ≤ length s → Accepted (follow (fields (words n) more) s (from at)) → at + 4 * n ≤ length s
words_lie n more s at i h = go (leb (4 * n) (length s - at)) refl
  where
    go : (t : Bool) → leb (4 * n) (length s - at) ≡ t → at + 4 * n ≤ length s
    go true t = omega (arith, leb-true)
    go false t =
        let j = (length s - at) / 4 in
        absurd (stopped (rw (fields_then (words n) more s (from at) ∙ ap (λ (o : Out (List Value)). then o (λ vs q. follow (more vs) s q)) (row_stop s n j (from at) (omega (arith, leb-false)) (omega arith) (omega arith))) at h))
