-- What is answered as start and count: payloads, words of lists and segments of AS paths are what the grammar has there. Assumes nothing.
use Prim.Native.Nat.{ℕ, zero, suc, ◌+◌, ◌*◌, ◌≤◌, ◌<◌}
use mathlib.Core.Logic.{inl, inr}
use mathlib.Core.Path.{◌≡◌, refl, sym, ap, ◌∙◌, subst}
use mathlib.Core.Bool.{Bool, true, false, cond}
use mathlib.Core.List.{List, [], ◌∷◌, ◌++◌, append_assoc, append-nil}
use native.Mathlib.Omega.{arith}
use borrow.Author.Tests.{le-leb, lt-leb, leb-true, leb-false}
use lib.Dec.{leb}
use lib.ListN.{length, take, drop, length-append, length-drop, take-append-drop}
use lib.Seq.{length-take-le, drop_at}
use Rattle.reading.specs.Bytes.{be4}
use Rattle.reading.specs.Utf8.{◌&◌}
use Rattle.reading.specs.Script.{Span, Value, number, part, Found, nothing}
use Rattle.reading.specs.Grammar.{Opaque, IsItem, Many, Is}
use Rattle.reading.specs.Layout.{num, any_word, segment, field, fields, run_of}
use Rattle.reading.specs.Values.{alone, valued, reading}
use Rattle.reading.specs.Answer.{from, Fields, answered, unread, no_span, Listed, list_word_of, segment_fields, segment_at, payload_span_of, payload}
use Rattle.reading.specs.Sizes.{longest_input}
use Rattle.reading.proofs.Stands.{Stands, be4_here, payload_there, bytes_there, back}
use Rattle.demands.specs.FieldsItemised.{only_values, read_whole}
use Rattle.demands.specs.Parts.{StandsAt, PayloadIs, whole, empty, WordAt, ListedIs, present, absent, SegmentItemised, too_long, passes, held, FirstOfSegments}
use Rattle.demands.proofs.Stopping.{Left}
use Rattle.demands.proofs.FieldsItemised.{layout_held, held_only}

-- ---- bytes that stand somewhere

-- by the two ends, and by what is behind the position
cut : (s : List ℕ) (at n : ℕ) → at + n ≤ length s → StandsAt s at (take n (drop at s))
cut s at n h =
    record {
      before = take at s;
      after = drop n (drop at s);
      joined = sym (take-append-drop at s) ∙ ap (λ (t : List ℕ). take at s ++ t) (sym (take-append-drop n (drop at s)));
      long = length-take-le at s (omega arith);
    }

stands : {s x : List ℕ} {at : ℕ} (h : StandsAt s at x) → Stands s at x h.after
stands {s} {x} {at} h =
    record {
      there = ap (λ (t : List ℕ). drop at t) h.joined ∙ drop_at h.before (x ++ h.after) at h.long;
      fits = let l = ap length h.joined in omega (arith, simp length-append at l, h.long);
    }

part_long : (s : List ℕ) (at n : ℕ) → at + n ≤ length s → length (take n (drop at s)) ≡ n
part_long s at n h = length-take-le n (drop at s) (rw length-drop (omega arith))

-- ---- the payload

module _ (s : List ℕ) (start extent : ℕ) where
  pub payload_is : PayloadIs s start extent (payload s start extent)
  unfolding payload payload_span_of
  payload_is = go (leb (length s) longest_input) (leb (start + extent) (length s)) refl refl
    where
      at : Span → List ℕ
      at x = take x.count (drop x.start s)

      go : (b d : Bool) → leb (length s) longest_input ≡ b → leb (start + extent) (length s) ≡ d → PayloadIs s start extent (at (cond b (cond d (record { start = start; count = extent }) no_span) no_span))
      go true true e f = let h = leb-true _ _ f in let c = cut s start extent h in whole (leb-true _ _ e) c (part_long s start extent h)
      go true false e f = empty (inr (leb-false _ _ f)) refl
      go false d e f = empty (inl (leb-false _ _ e)) refl

  -- and nothing else is
  pub payload_only : {x : List ℕ} → PayloadIs s start extent x → x ≡ payload s start extent
  unfolding payload payload_span_of
  payload_only {x} (whole h st e) =
      let t = stands st in
      rw (le-leb (length s) longest_input h, le-leb (start + extent) (length s) (omega (arith, t.fits))) (sym (ap (λ (n : ℕ). take n (drop start s)) (sym e) ∙ bytes_there start t))
  payload_only (empty (inl l) e) = e ∙ rw (lt-leb (length s) longest_input l)
  payload_only (empty (inr l) e) = e ∙ rw (lt-leb (start + extent) (length s) l) (go (leb (length s) longest_input))
    where
      go : (b : Bool) → [] ≡ take (cond b no_span no_span).count (drop (cond b no_span no_span).start s)
      go true = refl
      go false = refl

-- of an opaque that stands at o it is what that holds
pub opaque_payload : {s u x : List ℕ} (o : ℕ) → length s ≤ longest_input → StandsAt s o u → Opaque x u → payload s (o + 4) (length x) ≡ x
opaque_payload {s} {u} {x} o h st q =
    let p = payload_there o q (stands st) in
    sym (payload_only s (o + 4) (length x) (whole h (subst (StandsAt s (o + 4)) (bytes_there (o + 4) p.1) (cut s (o + 4) (length x) p.1.fits)) refl))

-- ---- a word of a list

-- so many words are four bytes each
many_long : (i o : ℕ) (b : List ℕ) (f : Found) (n : ℕ) → Many i (Is any_word) o b f n → length b ≡ 4 * i
unfolding Many Is IsItem
many_long zero o b f n (e, g, m) = ap length e
many_long (suc i) o b f n (x, y, g, h, m, l, e, _, _, (u, v, w, k, d, _, (four, _), (none, _, _)), rest) =
    let c = many_long i (o + length x) y h l rest in
    omega (arith, ap length e ∙ length-append x y, ap length d ∙ length-append u v, ap length none)

many_words : (i o : ℕ) (b : List ℕ) → length b ≡ 4 * i → Many i (Is any_word) o b nothing i
unfolding Many Is IsItem
many_words zero o [] h = (refl, refl, refl)
many_words zero o (x ∷ b) h = absurd (omega arith)
many_words (suc i) o b h =
    let x = take 4 b in
    let l : length x ≡ 4 = length-take-le 4 b (omega arith) in (
      x,
      drop 4 b,
      nothing,
      nothing,
      1,
      i,
      sym (take-append-drop 4 b),
      refl,
      omega arith,
      (x, [], number (be4 x 0), 0, sym (append-nil x), refl, (l, refl), (refl, refl, refl)),
      many_words i (o + length x) (drop 4 b) (length-drop 4 b ∙ omega arith),
    )

module _ (s : List ℕ) (start count i : ℕ) where
  word_fits : {v : ℕ} → WordAt s start count i v → start + 4 * (i + 1) ≤ length s
  unfolding IsItem
  word_fits w = let l = many_long i start w.before nothing i w.words in let t = stands w.stands in omega (arith, t.fits, l, w.is.0, length-append w.before w.this)

  word_value : {v : ℕ} → WordAt s start count i v → be4 s (start + 4 * i) ≡ v
  unfolding IsItem
  word_value {v} w =
      let l = many_long i start w.before nothing i w.words in
      let e : number v ≡ number (be4 w.this 0) = w.is.1 in
      let z : v ≡ be4 w.this 0 = cc in
      ap (λ (n : ℕ). be4 s (start + n)) (sym l) ∙ be4_here (start + length w.before) (back w.before w.this refl (stands w.stands)) (omega (arith, w.is.0)) ∙ sym z

  word_here : i < count → start + 4 * (i + 1) ≤ length s → WordAt s start count i (be4 s (start + 4 * i))
  unfolding IsItem
  word_here h k =
      let b = take (4 * (i + 1)) (drop start s) in
      let n : length b ≡ 4 * (i + 1) = part_long s start (4 * (i + 1)) k in
      let x = take (4 * i) b in
      let y = drop (4 * i) b in
      let l : length x ≡ 4 * i = length-take-le (4 * i) b (omega arith) in
      let m : length y ≡ 4 = length-drop (4 * i) b ∙ omega arith in
      let c = subst (StandsAt s start) (sym (take-append-drop (4 * i) b)) (cut s start (4 * (i + 1)) k) in
      let e = ap (λ (n : ℕ). be4 s (start + n)) (sym l) ∙ be4_here (start + length x) (back x y refl (stands c)) (omega arith) in
      record { fewer = h; before = x; this = y; stands = c; words = many_words i start x l; is = (m, ap number e) }

  pub listed_is : ListedIs s start count i (list_word_of s start count i)
  unfolding list_word_of
  listed_is = go (leb (i + 1) count) (leb (start + 4 * (i + 1)) (length s)) refl refl
    where
      go : (b d : Bool) → leb (i + 1) count ≡ b → leb (start + 4 * (i + 1)) (length s) ≡ d
          → ListedIs s start count i (cond (b & d) (record { present = true; value = be4 s (start + 4 * i) }) (record { present = false; value = 0 }))
      go true true e f = let h = leb-true (i + 1) count e in present _ (word_here (omega arith) (leb-true _ _ f)) refl
      go true false e f = absent (λ v w. let h = leb-false (start + 4 * (i + 1)) (length s) f in let k = word_fits w in omega arith) refl
      go false d e f = absent (λ v w. let h = leb-false (i + 1) count e in let k = w.fewer in omega arith) refl

  -- and nothing else is
  pub listed_only : {a : Listed} → ListedIs s start count i a → a ≡ list_word_of s start count i
  listed_only {a} h = go h listed_is
    where
      go : {b : Listed} → ListedIs s start count i a → ListedIs s start count i b → a ≡ b
      go (present v w e) (present u x f) = e ∙ ap (λ (n : ℕ). record { present = true; value = n }) (sym (word_value w) ∙ word_value x) ∙ sym f
      go (present v w e) (absent n f) = absurd (n v w)
      go (absent n e) (present u x f) = absurd (n u x)
      go (absent n e) (absent m f) = e ∙ sym f

-- of words that stand there each is present
pub words_present : (s : List ℕ) (start count : ℕ) (b : List ℕ) (f : Found) (n : ℕ) → StandsAt s start b → Many count (Is any_word) start b f n → (i : ℕ) → i < count
    → (list_word_of s start count i).present ≡ true
words_present s start count b f n st m i h =
    let l = many_long count start b f n m in
    let t = stands st in
    ap (λ (a : Listed). a.present) (sym (listed_only s start count i (present _ (word_here s start count i h (omega (arith, t.fits, l))) refl)))

-- ---- a segment of an AS path

left_at : (s : List ℕ) (at : ℕ) → at ≤ length s → Left s at (drop at s)
left_at s at h = record { there = refl; fits = h }

module _ (s : List ℕ) (at : ℕ) where
  own_segment : length s ≤ longest_input → at ≤ length s → segment_at s at ≡ answered (reading segment_fields s (from at))
  unfolding segment_at
  own_segment h i = rw (le-leb (length s) longest_input h, le-leb at (length s) i)

  pub segment_is : SegmentItemised s at (segment_at s at)
  unfolding segment_at answered valued
  segment_is = go (leb (length s) longest_input) (leb at (length s)) refl refl
    where
      go : (b d : Bool) → leb (length s) longest_input ≡ b → leb at (length s) ≡ d → SegmentItemised s at (answered (cond b (cond d (reading segment_fields s (from at)) (unread segment_fields 10)) (unread segment_fields 1)))
      go true true e f = let h = leb-true at (length s) f in held (leb-true _ _ e) h (layout_held segment_fields (left_at s at h))
      go true false e f = passes (leb-true _ _ e) (leb-false _ _ f) refl
      go false d e f = too_long (leb-false _ _ e) refl

  -- and nothing else is
  pub segment_only : {a : Fields} → SegmentItemised s at a → a ≡ segment_at s at
  unfolding segment_at answered valued
  segment_only (too_long h e) = e ∙ rw (lt-leb (length s) longest_input h)
  segment_only (passes h i e) = e ∙ rw (le-leb (length s) longest_input h, lt-leb at (length s) i)
  segment_only (held h i t) = held_only segment_fields (left_at s at i) t ∙ sym (own_segment h i)

-- a segment of the layout, as the fields of one
segment_values : (o : ℕ) (b : List ℕ) (f : Found) (n : ℕ) → Is segment o b f n → (vs : List Value) × Is (alone segment_fields) o b (only_values vs) n
unfolding Is run_of field fields
segment_values o b f n (x, y, v, m, e, k, i, (u, w, c, l, d, j, g, (p, q, a, r, t, h, z, many, (none, _, over)))) = (
  v ∷ part (record { start = o + length x + length u; count = num c }) ∷ [],
  (x, y, v, m, e, k, i, (u, w, c, l, d, j, g, (p, q, a, r, t, h, z, many, (none, refl, over)))),
)

pub first_segment : (s : List ℕ) (at n : ℕ) (b : List ℕ) (f : Found) (k : ℕ) → length s ≤ longest_input → StandsAt s at b → Many (suc n) (Is segment) at b f k → FirstOfSegments s at n b
unfolding Many
first_segment s at n b f k short st (x, y, g, h, m, l, e, _, _, one, rest) =
    let v = segment_values at x g m one in
    let t = stands st in
    let z : drop at s ≡ x ++ (y ++ st.after) = t.there ∙ ap (λ (c : List ℕ). c ++ st.after) e ∙ append_assoc x y st.after in
    record {
      this = x;
      others = y;
      joined = e;
      values = v.0;
      items = m;
      is = v.1;
      answer = sym (segment_only s at (held short (omega (arith, t.fits)) (read_whole v.0 (length x) m (record { read = x; rest = y ++ st.after; joined = z; long = refl; is = v.1 }) refl)));
      found = h;
      more = l;
      rest = rest;
    }
