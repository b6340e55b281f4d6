-- The descriptor of a sample or a record stands for a format word and an opaque, whose payload is its range: by the layouts, as the grammar has them. For
-- one datagram, and for a run. Assumes nothing.
use Prim.Native.Nat.{ℕ, zero, suc, ◌+◌, ◌*◌, ◌-◌, ◌≤◌, ◌<◌}
use mathlib.Core.Path.{◌≡◌, refl, sym, ap, ◌∙◌, subst}
use mathlib.Core.Bool.{Bool, true, false, cond}
use mathlib.Core.List.{List, [], ◌∷◌, ◌++◌, append_assoc}
use native.Mathlib.Omega.{arith}
use lib.Dec.{eqb}
use lib.ListN.{length, take, drop, length-append, take-append-drop}
use lib.Seq.{length-take-le}
use Rattle.reading.specs.Script.{Value, number, Range, Forest, ◌⊕◌, Found, nothing, Item, Script, give, here, item, repeat}
use Rattle.reading.specs.Grammar.{Opaque, IsItem, Many, Is}
use Rattle.reading.specs.Layout.{Mode, num, Field, plain, mac, addr, list, segments, address_of, run_of, field, fields, Row, ◌⟼◌, ◌⟼◌each◌, last_number, opened, Fixed, fixed_rows, ranged, between, framed, pdu, flows, flow, counters, counter, samples, sample, header, datagram_to}
use Rattle.reading.specs.Answer.{nobody, size, rows, one, run, payload}
use Rattle.reading.specs.Sizes.{longest_input, descriptor_words}
use Rattle.reading.proofs.Descriptors.{Among, this, inside, later, stands_in}
use Rattle.demands.specs.DescriptorFields.{range}
use Rattle.demands.specs.Parts.{StandsAt}
use Rattle.demands.specs.Frames.{FrameAt, Frame, Frames, none, also}
use Rattle.demands.specs.Tries.{Run, over, next, cut}
use Rattle.demands.proofs.Fielded.{range_is}
use Rattle.demands.proofs.Parts.{opaque_payload}
use Rattle.demands.proofs.Itemised.{accepted_reads}
use Rattle.demands.proofs.Accepted.{one_reads}
use Rattle.demands.proofs.RunItemised.{run_reads}

-- ---- bytes that stand somewhere, in two parts
module _ {s u : List ℕ} {o : ℕ} (x y : List ℕ) (e : u ≡ x ++ y) (h : StandsAt s o u) where
  front : StandsAt s o x
  front = record { before = h.before; after = y ++ h.after; joined = h.joined ∙ ap (λ (t : List ℕ). h.before ++ (t ++ h.after)) e ∙ ap (λ (t : List ℕ). h.before ++ t) (append_assoc x y h.after); long = h.long }

  back : StandsAt s (o + length x) y
  unfolding front
  back = record {
    before = h.before ++ x;
    after = h.after;
    joined = front.joined ∙ sym (append_assoc h.before x (y ++ h.after));
    long = length-append h.before x ∙ ap (λ (n : ℕ). n + length x) h.long;
  }

-- and what an opaque holds
held : {s x u : List ℕ} (o : ℕ) → Opaque x u → StandsAt s o u → StandsAt s (o + 4) x
held {s} {x} o q h = front x q.pad refl (subst (λ (n : ℕ). StandsAt s (o + n) (x ++ q.pad)) q.four (back q.size (x ++ q.pad) q.joined h))

-- ---- of what a script is read as, wherever it stands

both : {s : List ℕ} {f g : Forest} → Frames s f → Frames s g → Frames s (f ⊕ g)
both none k = k
both (also h i j) k = also h i (both j k)

record Good (a : Script) : Type 0 where
  says : (o : ℕ) (u : List ℕ) (f : Found) (k : ℕ) → Is a o u f k → (s : List ℕ) → StandsAt s o u → Frames s f.ranges

two : {a b : Script} (t : Bool) → Good a → Good b → Good (cond t a b)
two true h g = h
two false h g = g

found_as : {s : List ℕ} {f a : Found} → f ≡ a → Frames s a.ranges → Frames s f.ranges
found_as {s} e h = subst (λ (b : Found). Frames s b.ranges) (sym e) h

good_none : Good (give nothing)
unfolding Is
good_none = record { says = λ o u f k (e, g, l) s h. found_as g none }

good_item : (i : Item) {a : Value → Script} → ((v : Value) → Good (a v)) → Good (item i a)
unfolding Is
good_item i g = record { says = λ o u f k (x, y, v, l, e, en, ix, iy) s h. (g v).says _ _ _ _ iy s (back x y e h) }

good_run : (body : Script) {a : Value → Script} → ((v : Value) → Good (a v)) → Good (run_of body a)
unfolding Is run_of
good_run body g = record { says = λ o u f k (x, y, v, l, e, en, ix, (x', y', c, i, j, e', en', many, iy)) s h. (g _).says _ _ _ _ iy s (back x' y' e' (back x y e h)) }

good_address : (t : ℕ) {a : Value → Script} → ((v : Value) → Good (a v)) → Good (address_of t a)
unfolding address_of
good_address zero g = g _
good_address (suc zero) g = good_item _ (λ c. g _)
good_address (suc (suc t)) g = good_item _ (λ c. g _)

good_field : (l : Field) {a : Value → Script} → ((v : Value) → Good (a v)) → Good (field l a)
unfolding field
good_field (plain i) g = good_item i g
good_field mac g = good_item _ (λ c. g _)
good_field addr g = good_item _ (λ t. good_address (num t) g)
good_field list g = good_run _ g
good_field segments g = good_run _ g

good_fields : (l : List Field) {a : List Value → Script} → ((vs : List Value) → Good (a vs)) → Good (fields l a)
unfolding fields
good_fields [] g = g []
good_fields (f ∷ rest) g = good_field f (λ v. good_fields rest (λ vs. g (v ∷ vs)))

good_many : {a : Script} → Good a → (c o : ℕ) (u : List ℕ) (f : Found) (k : ℕ) → Many c (Is a) o u f k → (s : List ℕ) → StandsAt s o u → Frames s f.ranges
unfolding Many
good_many g zero o u f k (e, z, l) s h = found_as z none
good_many g (suc c) o u f k (x, y, a, b, i, j, e, ef, en, px, py) s h = found_as ef (both (g.says _ _ _ _ px s (front x y e h)) (good_many g c _ _ _ _ py s (back x y e h)))

good_each : (c : ℕ) {a : Script} → Good a → Good (repeat c a (λ r. give r))
unfolding Is
good_each c g = record { says = λ o u f k (x, y, a, i, j, e, en, many, (ey, ef, ej)) s h. found_as ef (good_many g c _ _ _ _ many s (front x y e h)) }

-- ---- frames

good_framed : (kind depth : ℕ) {body : ℕ → Script} → ((f : ℕ) → Good (body f)) → Good (framed kind depth body)
unfolding Is IsItem
good_framed kind depth g = record {
  says = λ o u f k (x, y, v, l, e, en, (four, ev), (u', y', z, inner, rest, a, i, j, e', en', q, ez, ia, (ey, ef, ej))) s h.
      let p = back x y e h in
      let t = front u' y' e' p in
      let w = front (x ++ u') y' (e ∙ ap (λ (t : List ℕ). x ++ t) e' ∙ sym (append_assoc x u' y')) h in
      found_as ef
      (also (λ m n. record { format = x; opaque = u'; payload = z; stands = w; word = (four, ap (λ (c : Value). number (num c)) ev); holds = q; start = omega arith; count = refl })
      ((g (num v)).says _ _ _ _ ia s (front inner rest ez (held (o + length x) q t))) none);
}

good_pdu : (depth : ℕ) {body : Script} → Good body → Good (pdu depth body)
unfolding Is
good_pdu depth g = record {
  says = λ o u f k (x, y, v, l, e, en, ix, (x', y', a, i, j, e', en', many, (ey, ef, ej))) s h.
      found_as ef (also (λ m n. absurd (omega arith)) (good_many g (num v) _ _ _ _ many s (front x' y' e' (back x y e h))) none);
}

data Rows : List Row → Type 0 where
  over_all : Rows []
  flat : {g : ℕ} {l : List Field} {r : List Row} → Rows r → Rows ((g ⟼ l) ∷ r)
  counts : {g : ℕ} {l : List Field} {a : Script} {r : List Row} → Good a → Rows r → Rows ((g ⟼ l each a) ∷ r)

good_opened : {r : List Row} → Rows r → (f : ℕ) → Good (opened r f)
unfolding opened
good_opened over_all f = good_none
good_opened (flat {g} {l} t) f = two (eqb g f) (good_fields l (λ vs. good_none)) (good_opened t f)
good_opened (counts {g} {l} h t) f = two (eqb g f) (good_fields l (λ vs. good_each (last_number vs) h)) (good_opened t f)

good_flows : (mode : Mode) {a : Script} → Good a → Rows (flows mode a)
unfolding flows
good_flows mode h = search (flat, counts, over_all) depth 200

good_flow : (mode : Mode) (levels left : ℕ) → Good (flow mode levels left)
unfolding flow Is
good_flow mode levels zero = record { says = λ o u f k t. absurd t }
good_flow mode levels (suc left) = good_framed 2 (levels - left) (good_opened (good_flows mode (good_pdu (levels - left) (good_flow mode levels left))))

good_fixed : (t : List Fixed) → Rows (fixed_rows t)
good_fixed [] = over_all
good_fixed (x ∷ t) = flat (good_fixed t)

good_sample : (mode : Mode) (levels : ℕ) → Good (sample mode levels)
unfolding samples
good_sample mode levels =
    let f : Good (flow mode levels levels) = good_flow mode levels levels in
    let c : Good counter = good_framed 3 1 (good_opened (good_fixed counters)) in
    good_framed 1 0 (good_opened (counts f (counts c (counts f (counts c (counts f over_all))))))

good_datagram : (mode : Mode) (levels o : ℕ) (u : List ℕ) (f : Found) (k : ℕ) → Is (datagram_to mode levels) o u f k → (s : List ℕ) → StandsAt s o u → Frames s f.ranges
unfolding Is datagram_to
good_datagram mode levels o u f k t = (good_fields header (λ vs. samples_of o vs)).says o u f k t
  where
    samples_of : (a : ℕ) (vs : List Value) → Good (repeat (last_number vs) (sample mode levels) (λ r. here (λ e. give (record { values = vs; ranges = ranged 0 0 0 a (between a e) r.ranges }))))
    samples_of a vs = record {
      says = λ o u f k (x, y, b, i, j, e, en, many, (ey, ef, ej)) s h. found_as ef (also (λ m n. absurd (omega arith)) (good_many (good_sample mode levels) (last_number vs) _ _ _ _ many s (front x y e h)) none);
    }

good_run_of : (mode : Mode) (s : List ℕ) {at end n : ℕ} {g : Forest} → Run mode s at g end n → Frames s g
good_run_of mode s (over e f m z) = rw z none
good_run_of mode s {at} (next f bytes items h m d e z t) =
    let r = d.allowed.reading in
    let i = r.begins in
    rw z (both (good_datagram mode r.levels at i.read f items i.is s
    (record { before = take at s; after = i.rest; joined = sym (take-append-drop at s) ∙ ap (λ (b : List ℕ). take at s ++ b) i.joined; long = length-take-le at s d.inside }))
    (good_run_of mode s t))
good_run_of mode s (cut h i t e z) = rw z none

-- ---- the payload that is answered is what the opaque holds
pub frame_payload : (s : List ℕ) (r : Range) → length s ≤ longest_input → (f : FrameAt s r) → payload s r.span.start r.span.count ≡ f.payload
unfolding IsItem
frame_payload s r h f =
    let o = r.first in
    let e : r.span.start ≡ o + 4 + 4 = omega (arith, f.start) in
    ap (λ (n : ℕ). payload s n r.span.count) e ∙ ap (λ (n : ℕ). payload s (o + 4 + 4) n) f.count
    ∙ opaque_payload (o + 4) h (subst (λ (n : ℕ). StandsAt s (o + n) f.opaque) f.word.0 (back f.format f.opaque refl f.stands)) f.holds

-- ---- the calls

each_of : {s : List ℕ} {r : Range} {inner g : Forest} → Frames s g → Among r inner g → Frame s r
each_of none m = elim m [ ]
each_of (also h i j) this = h
each_of (also h i j) (inside m) = each_of i m
each_of (also h i j) (later m) = each_of j m

in_store : (s : List ℕ) (g : Forest) (rest : List ℕ) → Frames s g → (i : ℕ) → i < size g → Frame s (range (rows 0 nobody g ++ rest) i)
in_store s g rest h i l = subst (Frame s) (range_is (rows 0 nobody g ++ rest) i) (each_of h (stands_in g 0 nobody i rest l).1)

module _ (mode : Mode) (s w : List ℕ) where
  pub one_frames : (one mode s w).code ≡ 0 → (i : ℕ) → i < (one mode s w).needed → Frame s (range (one mode s w).store i)
  one_frames z i l =
      let a = accepted_reads (one_reads mode) s w z in
      let r = a.reading.reading in
      let b = r.begins in
      subst (λ (t : List ℕ). Frame s (range t i)) (sym a.answers.store)
      (in_store s a.found.ranges (drop (descriptor_words * size a.found.ranges) w)
      (good_datagram mode r.levels 0 b.read a.found a.items b.is s (record { before = []; after = b.rest; joined = b.joined; long = refl })) i (rw a.answers.needed at l))

  pub run_frames : (run mode s w).code ≡ 0 → (i : ℕ) → i < (run mode s w).needed → Frame s (range (run mode s w).store i)
  run_frames z i l =
      let a = accepted_reads (run_reads mode) s w z in
      subst (λ (t : List ℕ). Frame s (range t i)) (sym a.answers.store) (in_store s a.found (drop (descriptor_words * size a.found) w) (good_run_of mode s a.reading) i (rw a.answers.needed at l))
