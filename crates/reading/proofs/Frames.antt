-- A frame that was read, taken apart: its format word, its span, and what was found inside it. Assumes nothing.
use Prim.Native.Nat.{ℕ, ◌+◌, ◌≤◌}
use mathlib.Core.Path.{◌≡◌, sym, ap, ◌∙◌}
use mathlib.Core.List.{List}
use native.Mathlib.Omega.{arith}
use lib.ListN.{length, take}
use Rattle.reading.specs.Bytes.{be4, padded}
use Rattle.reading.specs.Script.{Span, Value, number, Found, word, Script}
use Rattle.reading.specs.Cursor.{Place, got, read_opaque, read_item, times, held_to, inside, follow}
use Rattle.reading.specs.Layout.{num, only, ranged, between, framed, pdu}
use Rattle.reading.proofs.Items.{split, held_to_end, fixed_read, OpaqueRead, opaque_read}
use Rattle.reading.proofs.Stands.{place}

-- a word that was read, by its value
pub record WordRead (s : List ℕ) (p : Place) (v : Value) (q : Place) : Type 0 where
  pub fits : p.at + 4 ≤ length s
  pub number_is : num v ≡ be4 s p.at
  pub at : q.at ≡ p.at + 4

pub word_read : (s : List ℕ) (p : Place) (v : Value) (q : Place) → read_item word s p ≡ got v q → WordRead s p v q
unfolding read_item
word_read s p v q e =
    let r = fixed_read 4 (number (be4 s p.at)) s p e in
    record { fits = r.0; number_is = ap num r.1; at = r.2 }

pub record Frame (kind depth : ℕ) (body : ℕ → Script) (s : List ℕ) (p : Place) (a : Found) (q : Place) : Type 0 where
  pub format : ℕ
  pub format_is : format ≡ be4 s p.at
  pub span : Span
  pub start : span.start ≡ p.at + 8
  pub count : be4 s (p.at + 4) ≡ span.count
  pub fits : p.at + 8 + padded span.count ≤ length s
  pub end : q.at ≡ p.at + 8 + padded span.count
  pub steps : ℕ
  pub inner : Found
  pub last : Place
  pub held : follow (body format) (held_to span s) (place span.start steps) ≡ got inner last
  pub found : a ≡ only (ranged kind format depth p.at span inner.ranges)

-- what is inside stays inside
pub span_fits : {kind depth : ℕ} {body : ℕ → Script} {s : List ℕ} {p : Place} {a : Found} {q : Place} → (f : Frame kind depth body s p a q) → f.span.start + f.span.count ≤ length s
span_fits f = rw f.start (omega (arith, f.fits))

pub span_length : {kind depth : ℕ} {body : ℕ → Script} {s : List ℕ} {p : Place} {a : Found} {q : Place} → (f : Frame kind depth body s p a q)
    → length (held_to f.span s) ≡ f.span.start + f.span.count
span_length {s = s} f = held_to_end f.span s (span_fits f)

module _ (kind depth : ℕ) (body : ℕ → Script) (s : List ℕ) (p : Place) where
  -- from the word, the opaque and what was inside it
  framed_from : {a : Found} {q : Place} (v : Value) (w : Place) (x : Span) (e : Place) (b : Found) (d : Place) (i : Found) (l : Place)
      → WordRead s p v w → OpaqueRead s w x e
      → follow (body (num v)) (held_to x s) (place x.start e.steps) ≡ got i l
      → got i (record { at = e.at; steps = l.steps }) ≡ got b d
      → got (only (ranged kind (num v) depth p.at x b.ranges)) d ≡ got a q
      → Frame kind depth body s p a q
  framed_from {a} {q} v w x e b d i l r o h f g =
      let z : b ≡ i = cc in
      let y : only (ranged kind (num v) depth p.at x b.ranges) ≡ a = cc in
      let t : q ≡ record { at = e.at; steps = l.steps } = cc in
      let u : w.at + 4 ≡ p.at + 8 = omega (arith, r.at) in
      record {
        format = num v;
        format_is = r.number_is;
        span = x;
        start = o.start ∙ u;
        count = ap (λ (n : ℕ). be4 s n) (sym r.at) ∙ o.count;
        fits = omega (arith, r.at, o.fits);
        end = ap (λ (n : Place). n.at) t ∙ o.at ∙ rw r.at (omega arith);
        steps = e.steps;
        inner = i;
        last = l;
        held = h;
        found = sym y ∙ ap (λ (n : Found). only (ranged kind (num v) depth p.at x n.ranges)) z;
      }

  pub frame_read : {a : Found} {q : Place} → follow (framed kind depth body) s p ≡ got a q → Frame kind depth body s p a q
  unfolding follow inside
  frame_read h =
      let w = split (read_item word s p) _ h in
      let v = split (read_opaque s w.place) _ w.second in
      let u = split (inside v.value (follow (body (num w.value))) s v.place) _ v.second in
      let z = split (follow (body (num w.value)) (take (v.value.start + v.value.count) s) (place v.value.start v.place.steps)) _ u.first in
      framed_from w.value w.place v.value v.place u.value u.place z.value z.place
      (word_read s p w.value w.place w.first)
      (opaque_read s w.place v.value v.place v.first) z.first z.second u.second

-- ---- a PDU

pub record Pdu (depth : ℕ) (body : Script) (s : List ℕ) (p : Place) (a : Found) (q : Place) : Type 0 where
  pub count : ℕ
  pub count_is : count ≡ be4 s p.at
  pub first : Place
  pub fits : p.at + 4 ≤ length s
  pub start : first.at ≡ p.at + 4
  pub inner : Found
  pub held : times count (follow body) s first ≡ got inner q
  pub found : a ≡ only (ranged 4 0 depth p.at (between first.at q.at) inner.ranges)

module _ (depth : ℕ) (body : Script) (s : List ℕ) (p : Place) where
  pdu_from : {a : Found} {q : Place} (v : Value) (w : Place) (i : Found) (e : Place) → WordRead s p v w → times (num v) (follow body) s w ≡ got i e
      → got (only (ranged 4 0 depth p.at (between w.at e.at) i.ranges)) e ≡ got a q → Pdu depth body s p a q
  pdu_from {a} {q} v w i e r h g =
      let y : only (ranged 4 0 depth p.at (between w.at e.at) i.ranges) ≡ a = cc in
      let t : e ≡ q = cc in
      record {
        count = num v;
        count_is = r.number_is;
        first = w;
        fits = r.fits;
        start = r.at;
        inner = i;
        held = h ∙ ap (λ (n : Place). got i n) t;
        found = sym y ∙ ap (λ (n : Place). only (ranged 4 0 depth p.at (between w.at n.at) i.ranges)) t;
      }

  pub pdu_read : {a : Found} {q : Place} → follow (pdu depth body) s p ≡ got a q → Pdu depth body s p a q
  unfolding follow
  pdu_read h =
      let w = split (read_item word s p) _ h in
      let v = split (times (num w.value) (follow body) s w.place) _ w.second in
      pdu_from w.value w.place v.value v.place (word_read s p w.value w.place w.first) v.first v.second
