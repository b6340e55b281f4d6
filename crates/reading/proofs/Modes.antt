-- The two modes: what is accepted with addresses of eight bytes is accepted with addresses of six, with the same ranges, the same steps and the same
-- end. Assumes nothing.
use Prim.Native.Nat.{ℕ, zero, suc, ◌+◌, ◌-◌, ◌≤◌}
use mathlib.Core.Path.{◌≡◌, refl, sym, ap, ◌∙◌}
use mathlib.Core.Bool.{Bool, true, false, cond}
use mathlib.Core.List.{List, [], ◌∷◌, ◌++◌}
use native.Mathlib.Omega.{arith}
use borrow.Author.Tests.{le-leb}
use lib.Dec.{eqb}
use lib.ListN.{length, take, drop}
use Rattle.reading.specs.Bytes.{be4}
use Rattle.reading.specs.Script.{six, Span, Value, number, octets, Found, nothing, word, Script, give, repeat}
use Rattle.reading.specs.Cursor.{Place, Out, got, then, on, fixed, read_opaque, read_item, times, held_to, inside, follow}
use Rattle.reading.specs.Layout.{num, oct, Field, plain, mac, words, bytes, fields, Row, ◌⟼◌, ◌⟼◌each◌, last_number, opened, only, ranged, framed, pdu, Mode, memo, base, ethernet, flows, flow, counter, samples, sample, header, datagram}
use Rattle.reading.specs.Sizes.{depth_limit}
use Rattle.reading.proofs.Items.{never, split, fixed_read}
use Rattle.reading.proofs.Stands.{place}
use Rattle.reading.proofs.Fields.{field_out, fields_out, fields_then}
use Rattle.reading.proofs.Counts.{repeat_is}
use Rattle.reading.proofs.Room.{datagram_is}

-- what the first accepts, the second accepts: with the same found and the same steps, wherever it ends
record Alike (x y : Script) : Type 0 where
  is : (s : List ℕ) (p : Place) (a : Found) (q : Place) → follow x s p ≡ got a q → (r : Place) × (follow y s p ≡ got a r) × (r.steps ≡ q.steps)

-- and with the same end
pub record Same (x y : Script) : Type 0 where
  pub is : (s : List ℕ) (p : Place) (a : Found) (q : Place) → follow x s p ≡ got a q → follow y s p ≡ got a q

alike : {x y : Script} → Same x y → Alike x y
alike h = record { is = λ s p a q e. (q, h.is s p a q e, refl) }

times_same : {x y : Script} → Same x y → (n : ℕ) (s : List ℕ) (p : Place) (a : Found) (q : Place) → times n (follow x) s p ≡ got a q → times n (follow y) s p ≡ got a q
unfolding times
times_same h zero s p a q e = e
times_same {x} {y} h (suc n) s p a q e =
    let w = split (follow x s p) _ e in
    let v = split (times n (follow x) s w.place) _ w.second in
    let i : follow y s p ≡ got w.value w.place = h.is s p w.value w.place w.first in
    let j : times n (follow y) s w.place ≡ got v.value v.place = times_same h n s w.place v.value v.place v.first in
    rw (i, j) v.second

framed_on : (kind depth : ℕ) (y : ℕ → Script) (s : List ℕ) (p : Place) {v : Value} {w : Place} {x : Span} {r : Place} {b : Found} {d : Place} {a : Found} {q : Place}
    → read_item word s p ≡ got v w → read_opaque s w ≡ got x r → follow (y (num v)) (held_to x s) (place x.start r.steps) ≡ got b d
    → got (only (ranged kind (num v) depth p.at x b.ranges)) (place r.at d.steps) ≡ got a q → follow (framed kind depth y) s p ≡ got a q
unfolding follow inside
framed_on kind depth y s p e f g h = rw (e, f, g) h

-- a frame goes on where its opaque ends
framed_same : (kind depth : ℕ) {x y : ℕ → Script} → ((f : ℕ) → Alike (x f) (y f)) → Same (framed kind depth x) (framed kind depth y)
unfolding follow inside
framed_same kind depth {x} {y} h = record { is = go }
  where
    go : (s : List ℕ) (p : Place) (a : Found) (q : Place) → follow (framed kind depth x) s p ≡ got a q → follow (framed kind depth y) s p ≡ got a q
    go s p a q e =
        let w = split (read_item word s p) _ e in
        let v = split (read_opaque s w.place) _ w.second in
        let u = split (inside v.value (follow (x (num w.value))) s v.place) _ v.second in
        let z = split (follow (x (num w.value)) (held_to v.value s) (place v.value.start v.place.steps)) _ u.first in
        let i = (h (num w.value)).is (held_to v.value s) (place v.value.start v.place.steps) z.value z.place z.first in
        let t : got z.value (place v.place.at i.0.steps) ≡ got u.value u.place = ap (λ (n : ℕ). got z.value (place v.place.at n)) i.2 ∙ z.second in
        framed_on kind depth y s p w.first v.first i.1 (ap (λ (o : Out Found). then o (λ b d. got (only (ranged kind (num w.value) depth p.at v.value b.ranges)) d)) t ∙ u.second)

pdu_same : (depth : ℕ) {x y : Script} → Same x y → Same (pdu depth x) (pdu depth y)
unfolding follow
pdu_same depth {x} {y} h = record { is = go }
  where
    go : (s : List ℕ) (p : Place) (a : Found) (q : Place) → follow (pdu depth x) s p ≡ got a q → follow (pdu depth y) s p ≡ got a q
    go s p a q e =
        let w = split (read_item word s p) _ e in
        let v = split (times (num w.value) (follow x) s w.place) _ w.second in
        let j : times (num w.value) (follow y) s w.place ≡ got v.value v.place = times_same h (num w.value) s w.place v.value v.place v.first in
        rw (w.first, j) v.second

each_same : (l : List Field) {x y : Script} → Same x y → Same (fields l (λ vs. repeat (last_number vs) x (λ a. give a))) (fields l (λ vs. repeat (last_number vs) y (λ a. give a)))
each_same l {x} {y} h = record { is = go }
  where
    go : (s : List ℕ) (p : Place) (a : Found) (q : Place) → follow (fields l (λ vs. repeat (last_number vs) x (λ a. give a))) s p ≡ got a q → follow (fields l (λ vs. repeat (last_number vs) y (λ a. give a))) s p ≡ got a q
    go s p a q e =
        let w = split (fields_out l s p) _ (sym (fields_then l _ s p) ∙ e) in
        let i = times_same h (last_number w.value) s w.place a q (sym (repeat_is (last_number w.value) x s w.place) ∙ w.second) in
        fields_then l _ s p ∙ rw w.first (repeat_is (last_number w.value) y s w.place ∙ i)

-- ---- rows of fields of so many bytes each

data Sized : Field → ℕ → Type 0 where
  of_word : Sized (plain word) 4
  of_six : Sized (bytes six) 6
  of_mac : Sized mac 8

data Rowed : List Field → (total count : ℕ) → Type 0 where
  over : Rowed [] 0 0
  next : {f : Field} {n : ℕ} {l : List Field} {t c : ℕ} → Sized f n → Rowed l t c → Rowed (f ∷ l) (n + t) (1 + c)

field_fits : {f : Field} {n : ℕ} → Sized f n → (s : List ℕ) (p : Place) → p.at + n ≤ length s → (v : Value) × (field_out f s p ≡ got v (on n p))
unfolding field_out read_item fixed
field_fits of_word s p h = (number (be4 s p.at), rw (le-leb _ _ h))
field_fits of_six s p h = (octets (take 6 (drop p.at s)), rw (le-leb _ _ h))
field_fits of_mac s p h = (octets (take 6 (take 8 (drop p.at s))), rw (le-leb _ _ h))

field_fit : {f : Field} {n : ℕ} → Sized f n → (s : List ℕ) (p : Place) {v : Value} {q : Place} → field_out f s p ≡ got v q → (p.at + n ≤ length s) × (q.at ≡ p.at + n) × (q.steps ≡ p.steps + 1)
unfolding field_out read_item
field_fit of_word s p e = let r = fixed_read 4 (number (be4 s p.at)) s p e in (r.0, r.2, r.3)
field_fit of_six s p e = let r = fixed_read 6 (octets (take 6 (drop p.at s))) s p e in (r.0, r.2, r.3)
field_fit of_mac s p {v} {q} e =
    let w = split (fixed 8 (octets (take 8 (drop p.at s))) s p) _ e in
    let r = fixed_read 8 (octets (take 8 (drop p.at s))) s p w.first in
    let g : got (octets (take 6 (oct w.value))) w.place ≡ got v q = w.second in
    let x : w.place ≡ q = cc in
    (r.0, sym (ap (λ (z : Place). z.at) x) ∙ r.2, sym (ap (λ (z : Place). z.steps) x) ∙ r.3)

row_got : {l : List Field} {t c : ℕ} → Rowed l t c → (s : List ℕ) (p : Place) → p.at + t ≤ length s → (vs : List Value) × (q : Place) × (fields_out l s p ≡ got vs q) × (q.steps ≡ p.steps + c)
unfolding fields_out
row_got over s p h = ([], p, refl, omega arith)
row_got (next {n = n} {t = t} z r) s p h =
    let v = field_fits z s p (omega arith) in
    let u = row_got r s (on n p) (omega arith) in
    (v.0 ∷ u.0, u.1, rw (v.1, u.2), u.3 ∙ omega arith)

row_read : {l : List Field} {t c : ℕ} → Rowed l t c → (s : List ℕ) (p : Place) {vs : List Value} {q : Place} → fields_out l s p ≡ got vs q → (p.at ≤ length s → p.at + t ≤ length s) × (q.steps ≡ p.steps + c)
unfolding fields_out
row_read over s p {vs} {q} e = let x : p ≡ q = cc in (λ h. omega arith, sym (ap (λ (z : Place). z.steps) x) ∙ omega arith)
row_read (next {f = f} {n = n} {l = l} z r) s p {vs} {q} e =
    let w = split (field_out f s p) _ e in
    let i = field_fit z s p w.first in
    let v = split (fields_out l s w.place) _ w.second in
    let j = row_read r s w.place v.first in
    let x : v.place ≡ q = last v.second in
    let y = ap (λ (z : Place). z.steps) x in
    (λ h. let k = j.0 (omega (arith, i.0, i.1)) in omega (arith, i.1), omega (arith, y, i.2, j.1))
  where
    last : {us : List Value} {d : Place} → got us d ≡ got vs q → d ≡ q
    last g = cc

-- the one row that differs: four items, of 24 bytes or of 20
abbrev fields_of : Mode → List Field
fields_of m = words 1 ++ ethernet m ∷ ethernet m ∷ words 1

rowed_memo : Rowed (fields_of memo) 24 4
rowed_memo = next of_word (next of_mac (next of_mac (next of_word over)))

rowed_base : Rowed (fields_of base) 20 4
rowed_base = next of_word (next of_six (next of_six (next of_word over)))

enough : (s : List ℕ) (p : Place) {vs : List Value} {q : Place} → fields_out (fields_of memo) s p ≡ got vs q → p.at + 24 ≤ length s
unfolding fields_out
enough s p e =
    let w = split (field_out (plain word) s p) _ e in
    let i = field_fit of_word s p w.first in
    (row_read rowed_memo s p e).0 (omega (arith, i.0))

row_alike : Alike (fields (fields_of memo) (λ _. give nothing)) (fields (fields_of base) (λ _. give nothing))
unfolding follow
row_alike = record { is = go }
  where
    go : (s : List ℕ) (p : Place) (a : Found) (q : Place) → follow (fields (fields_of memo) (λ _. give nothing)) s p ≡ got a q
        → (r : Place) × (follow (fields (fields_of base) (λ _. give nothing)) s p ≡ got a r) × (r.steps ≡ q.steps)
    go s p a q e =
        let w = split (fields_out (fields_of memo) s p) _ (sym (fields_then (fields_of memo) _ s p) ∙ e) in
        let g : got nothing w.place ≡ got a q = w.second in
        let x : w.place ≡ q = cc in
        let f : nothing ≡ a = cc in
        let i = row_read rowed_memo s p w.first in
        let j = enough s p w.first in
        let u = row_got rowed_base s p (omega arith) in
        (u.1, fields_then (fields_of base) _ s p ∙ rw u.2 (ap (λ (z : Found). got z u.1) f), u.3 ∙ sym i.1 ∙ ap (λ (z : Place). z.steps) x)

-- ---- tables

two : (b : Bool) {x y u v : Script} → Alike x u → Alike y v → Alike (cond b x y) (cond b u v)
two true h g = h
two false h g = g

data Rows : List Row → List Row → Type 0 where
  none : Rows [] []
  also : {g : ℕ} {l : List Field} {r t : List Row} → Rows r t → Rows ((g ⟼ l) ∷ r) ((g ⟼ l) ∷ t)
  other : {g : ℕ} {k l : List Field} {r t : List Row} → Alike (fields k (λ _. give nothing)) (fields l (λ _. give nothing)) → Rows r t → Rows ((g ⟼ k) ∷ r) ((g ⟼ l) ∷ t)
  counts : {g : ℕ} {l : List Field} {x y : Script} {r t : List Row} → Same x y → Rows r t → Rows ((g ⟼ l each x) ∷ r) ((g ⟼ l each y) ∷ t)

itself : (x : Script) → Same x x
itself x = record { is = λ s p a q e. e }

opened_alike : {r t : List Row} → Rows r t → (f : ℕ) → Alike (opened r f) (opened t f)
unfolding opened
opened_alike none f = alike (itself (give nothing))
opened_alike (also {g} {l} h) f = two (eqb g f) (alike (itself (fields l (λ _. give nothing)))) (opened_alike h f)
opened_alike (other {g} i h) f = two (eqb g f) i (opened_alike h f)
opened_alike (counts {g} {l} i h) f = two (eqb g f) (alike (each_same l i)) (opened_alike h f)

flows_alike : {x y : Script} → Same x y → Rows (flows memo x) (flows base y)
unfolding flows
flows_alike h = search (also, other, counts, none, row_alike) depth 200

flow_same : (limit left : ℕ) → Same (flow memo limit left) (flow base limit left)
unfolding flow follow
flow_same limit zero = record { is = λ s p a q e. never e }
flow_same limit (suc left) = framed_same 2 (limit - left) (opened_alike (flows_alike (pdu_same (limit - left) (flow_same limit left))))

sample_same : (limit : ℕ) → Same (sample memo limit) (sample base limit)
unfolding samples
sample_same limit =
    let f = flow_same limit limit in
    let c = itself counter in
    framed_same 1 0 (opened_alike (counts f (counts c (counts f (counts c (counts f none))))))

-- what is accepted with eight bytes is accepted with six: the same values and ranges, the same end, the same steps
pub memo_base : Same (datagram memo) (datagram base)
memo_base = record { is = go }
  where
    go : (s : List ℕ) (p : Place) (a : Found) (q : Place) → follow (datagram memo) s p ≡ got a q → follow (datagram base) s p ≡ got a q
    go s p a q e =
        let w = split (fields_out header s p) _ (sym (datagram_is memo depth_limit s p) ∙ e) in
        let v = split (times (last_number w.value) (follow (sample memo depth_limit)) s w.place) _ w.second in
        let j = times_same (sample_same depth_limit) (last_number w.value) s w.place v.value v.place v.first in
        datagram_is base depth_limit s p ∙ rw (w.first, j) v.second

-- so what is accepted in any mode is accepted in the base mode
pub in_base : (mode : Mode) → Same (datagram mode) (datagram base)
in_base memo = memo_base
in_base base = itself (datagram base)
