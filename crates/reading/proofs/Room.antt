-- Demand 3: four bytes for each descriptor. Assumes nothing.
use Prim.Native.Nat.{ℕ, zero, suc, ◌+◌, ◌*◌, ◌-◌, ◌≤◌}
use mathlib.Core.Path.{◌≡◌, sym, ap, ◌∙◌}
use mathlib.Core.Bool.{Bool, true, false, cond}
use mathlib.Core.List.{List, [], ◌∷◌}
use native.Mathlib.Omega.{arith}
use lib.Dec.{eqb, leb}
use lib.ListN.{length}
use Rattle.reading.specs.Bytes.{be4}
use Rattle.reading.specs.Script.{Value, number, Found, nothing, ◌⊞◌, word, tested, Script, give, repeat}
use Rattle.reading.specs.Cursor.{Place, got, stop, Reader, then, on, read_item, times, follow}
use Rattle.reading.specs.Layout.{Mode, Field, addr, fields, Row, last_number, opened, words, Fixed, fixed_rows, ranged, between, framed, pdu, flows, flow, counters, counter, samples, sample, header, datagram_to}
use Rattle.reading.specs.Answer.{size}
use Rattle.reading.proofs.Items.{never, split}
use Rattle.reading.proofs.Bounds.{Owes, owes, owes_item}
use Rattle.reading.proofs.Fields.{field_out, fields_out, fields_then}
use Rattle.reading.proofs.Counts.{size_joined, repeat_is}
use Rattle.reading.proofs.Frames.{frame_read, span_length, pdu_read}

-- where a reader accepts, it passed four bytes for each descriptor that it found
abbrev pub Thrifty : Reader Found → Type 0
Thrifty r = (s : List ℕ) (p : Place) (a : Found) (q : Place) → p.at ≤ length s → r s p ≡ got a q → 4 * size a.ranges + p.at ≤ q.at

-- a reader goes forward, and stays inside
abbrev StepsOn : Reader Found → Type 0
StepsOn r = (s : List ℕ) (p : Place) (a : Found) (q : Place) → p.at ≤ length s → r s p ≡ got a q → (p.at ≤ q.at) × (q.at ≤ length s)

steps_on : (sc : Script) → StepsOn (follow sc)
unfolding Owes
steps_on sc s p a q h e = let o = rw e at (owes sc s p h) in (o.0, o.1)

item_on : (s : List ℕ) (p : Place) (v : Value) (q : Place) → p.at ≤ length s → read_item word s p ≡ got v q → (p.at + 4 ≤ q.at) × (q.at ≤ length s)
unfolding read_item
item_on s p v q h e =
    let r = Rattle.reading.proofs.Items.fixed_read 4 _ s p e in
    (rw r.2 (omega arith), rw r.2 r.0)

-- two finds in a row, over m
both : {a : Found} {i q : Place} (g f : Found) (p m : ℕ) → got (g ⊞ f) i ≡ got a q → 4 * size g.ranges + p ≤ m → 4 * size f.ranges + m ≤ i.at → 4 * size a.ranges + p ≤ q.at
both {a} {i} {q} g f p m e h k =
    let x : g ⊞ f ≡ a = cc in
    let y : i ≡ q = cc in
    rw (← x, ← y, size_joined) (omega arith)

-- fields go forward
fields_on : (l : List Field) (s : List ℕ) (p : Place) (vs : List Value) (q : Place) → p.at ≤ length s → fields_out l s p ≡ got vs q → (p.at ≤ q.at) × (q.at ≤ length s)
unfolding follow
fields_on l s p vs q h e = steps_on (fields l (λ _. give nothing)) s p nothing q h (fields_then l (λ _. give nothing) s p ∙ rw e)

thrifty_times : (r : Reader Found) → Thrifty r → StepsOn r → (n : ℕ) → Thrifty (times n r)
unfolding times size
thrifty_times r t o zero s p a q h e = let k : p ≡ q = cc in let z : nothing ≡ a = cc in rw (← z, k) (omega arith)
thrifty_times r t o (suc n) s p a q h e =
    let w = split (r s p) _ e in
    let i = t s p w.value w.place h w.first in
    let j = o s p w.value w.place h w.first in
    let v = split (times n r s w.place) _ w.second in
    both w.value v.value p.at w.place.at v.second i (thrifty_times r t o n s w.place v.value v.place j.1 v.first)

-- fields, then nothing that has a range
thrifty_flat : (l : List Field) → Thrifty (follow (fields l (λ _. give nothing)))
unfolding follow size
thrifty_flat l s p a q h e =
    let i = steps_on (fields l (λ _. give nothing)) s p a q h e in
    let w = split (fields_out l s p) _ (sym (fields_then l (λ _. give nothing) s p) ∙ e) in
    let g : got nothing w.place ≡ got a q = w.second in
    let x : nothing ≡ a = cc in
    rw (← x) (omega arith)

-- fields, then so many as the last of them counts
thrifty_each : (l : List Field) (body : Script) → Thrifty (follow body) → Thrifty (follow (fields l (λ vs. repeat (last_number vs) body (λ a. give a))))
thrifty_each l body t s p a q h e =
    let w = split (fields_out l s p) _ (sym (fields_then l _ s p) ∙ e) in
    let n = last_number w.value in
    let i = fields_on l s p w.value w.place h w.first in
    let k = thrifty_times (follow body) t (steps_on body) n s w.place a q i.1 (sym (repeat_is n body s w.place) ∙ w.second) in
    omega arith

-- a row of a table, each row of which is thrifty
data All : List Row → Type 0 where
  none : All []
  more : {r : Row} {rest : List Row} → Thrifty (follow (fields r.layout r.more)) → All rest → All (r ∷ rest)

thrifty_opened : (rows : List Row) → All rows → (f : ℕ) → Thrifty (follow (opened rows f))
unfolding opened follow size
thrifty_opened rows none f s p a q h e = let k : p ≡ q = cc in let z : nothing ≡ a = cc in rw (← z, k) (omega arith)
thrifty_opened rows (more {r} {rest} t ts) f s p a q h e = go (eqb r.format f) (thrifty_opened rest ts f s p a q h) e
  where
    go : (b : Bool) → (follow (opened rest f) s p ≡ got a q → 4 * size a.ranges + p.at ≤ q.at)
        → follow (cond b (fields r.layout r.more) (opened rest f)) s p ≡ got a q → 4 * size a.ranges + p.at ≤ q.at
    go true i k = t s p a q h k
    go false i k = i k

-- ---- frames

thrifty_framed : (kind depth : ℕ) (body : ℕ → Script) → ((f : ℕ) → Thrifty (follow (body f))) → Thrifty (follow (framed kind depth body))
unfolding size
thrifty_framed kind depth body t s p a q h e =
    let f = frame_read kind depth body s p e in
    let l = span_length f in
    let i = t f.format _ _ f.inner f.last (rw l (omega arith)) f.held in
    let o = steps_on (body f.format) _ _ f.inner f.last (rw l (omega arith)) f.held in
    rw f.found (omega (arith, f.start, f.end))

pub thrifty_pdu : (depth : ℕ) (body : Script) → Thrifty (follow body) → Thrifty (follow (pdu depth body))
unfolding size
thrifty_pdu depth body t s p a q h e =
    let f = pdu_read depth body s p e in
    let i = thrifty_times (follow body) t (steps_on body) f.count s f.first f.inner q (rw f.start f.fits) f.held in
    rw f.found (omega (arith, f.start))

thrifty_flows : (mode : Mode) (inner : Script) → Thrifty (follow inner) → All (flows mode inner)
unfolding flows
thrifty_flows mode inner t = search (more, none, thrifty_flat, thrifty_each) depth 200

pub thrifty_flow : (mode : Mode) (limit left : ℕ) → Thrifty (follow (flow mode limit left))
unfolding flow follow
thrifty_flow mode limit zero = λ s p a q h e. never e
thrifty_flow mode limit (suc left) =
    let inner = pdu (limit - left) (flow mode limit left) in
    thrifty_framed 2 (limit - left) (opened (flows mode inner))
    (thrifty_opened (flows mode inner) (thrifty_flows mode inner (thrifty_pdu (limit - left) (flow mode limit left) (thrifty_flow mode limit left))))

thrifty_fixed : (t : List Fixed) → All (fixed_rows t)
thrifty_fixed [] = none
thrifty_fixed (x ∷ t) = more (thrifty_flat _) (thrifty_fixed t)

pub thrifty_counter : Thrifty (follow counter)
thrifty_counter = thrifty_framed 3 1 (opened (fixed_rows counters)) (thrifty_opened (fixed_rows counters) (thrifty_fixed counters))

thrifty_samples : (mode : Mode) (limit : ℕ) → All (samples mode limit)
unfolding samples
thrifty_samples mode limit =
    more (thrifty_each _ (flow mode limit limit) (thrifty_flow mode limit limit)) (more (thrifty_each _ counter thrifty_counter)
    (more (thrifty_each _ (flow mode limit limit) (thrifty_flow mode limit limit)) (more (thrifty_each _ counter thrifty_counter)
    (more (thrifty_each _ (flow mode limit limit) (thrifty_flow mode limit limit)) none))))

pub thrifty_sample : (mode : Mode) (limit : ℕ) → Thrifty (follow (sample mode limit))
thrifty_sample mode limit = thrifty_framed 1 0 (opened (samples mode limit)) (thrifty_opened (samples mode limit) (thrifty_samples mode limit))

-- ---- a datagram

-- what a datagram finds that begins at i, once its samples are read up to e
abbrev pub whole : ℕ → List Value → Found → Place → Found
whole i vs r e = record { values = vs; ranges = ranged 0 0 0 i (between i e.at) r.ranges }

-- a datagram is its header, and then its samples
pub datagram_is : (mode : Mode) (limit : ℕ) (s : List ℕ) (p : Place)
    → follow (datagram_to mode limit) s p ≡ then (fields_out header s p) (λ vs q. then (times (last_number vs) (follow (sample mode limit)) s q) (λ r e. got (whole p.at vs r e) e))
unfolding datagram_to follow
datagram_is mode limit s p = fields_then header _ s p

pub last_place : {A : Type 0} {a b : A} {p q : Place} → got a p ≡ got b q → p ≡ q
last_place e = cc

-- a header passes its version word
module _ (s : List ℕ) (p : Place) (h : p.at ≤ length s) where
  version_on : {v : Value} {q : Place} (b y : Bool) → cond b (cond y (got (number (be4 s p.at)) (on 4 p)) (stop 3 p.at p.steps)) (stop 2 p.at p.steps) ≡ got v q → q.at ≡ p.at + 4
  version_on true true e = ap (λ (r : Place). r.at) (sym (last_place e))
  version_on true false e = never e
  version_on false y e = never e

  pub header_on : {vs : List Value} {q : Place} → fields_out header s p ≡ got vs q → (p.at + 4 ≤ q.at) × (q.at ≤ length s)
  unfolding fields_out field_out read_item Owes
  header_on {vs} {q} e =
      let w = split (read_item (tested (λ v. eqb v 5) 3) s p) _ e in
      let i = version_on (leb (p.at + 4) (length s)) (eqb (be4 s p.at) 5) w.first in
      let j = rw w.first at (owes_item s p (tested (λ v. eqb v 5) 3) h) in
      let u = split (fields_out (addr ∷ words 4) s w.place) _ w.second in
      let k = fields_on (addr ∷ words 4) s w.place u.value u.place j.1 u.first in
      let y = ap (λ (r : Place). r.at) (last_place u.second) in
      (omega (arith, i, k.0, y), omega (arith, k.1, y))

-- a datagram passes four bytes for each descriptor, and has one of its own
passes : (mode : Mode) (limit : ℕ) (s : List ℕ) (p : Place) (a : Found) (q : Place) → p.at ≤ length s → follow (datagram_to mode limit) s p ≡ got a q → (4 * size a.ranges + p.at ≤ q.at) × (1 ≤ size a.ranges)
unfolding size
passes mode limit s p a q h e =
    let w = split (fields_out header s p) _ (sym (datagram_is mode limit s p) ∙ e) in
    let i = header_on s p h w.first in
    let v = split (times (last_number w.value) (follow (sample mode limit)) s w.place) _ w.second in
    let k = thrifty_times (follow (sample mode limit)) (thrifty_sample mode limit) (steps_on (sample mode limit)) (last_number w.value) s w.place v.value v.place i.1 v.first in
    let y = ap (λ (r : Place). r.at) (last_place v.second) in
    let g : got (whole p.at w.value v.value v.place) v.place ≡ got a q = v.second in
    let x : whole p.at w.value v.value v.place ≡ a = cc in
    (rw (← x) (omega (arith, i.0, k, y)), rw (← x) (omega arith))

pub thrifty_datagram : (mode : Mode) (limit : ℕ) → Thrifty (follow (datagram_to mode limit))
thrifty_datagram mode limit s p a q h e = (passes mode limit s p a q h e).0

pub datagram_on : (mode : Mode) (limit : ℕ) (s : List ℕ) (p : Place) {a : Found} {q : Place} → p.at ≤ length s → follow (datagram_to mode limit) s p ≡ got a q → (p.at + 4 ≤ q.at) × (q.at ≤ length s)
datagram_on mode limit s p {a} {q} h e =
    let i = passes mode limit s p a q h e in
    (omega (arith, i.0, i.1), (steps_on (datagram_to mode limit) s p a q h e).1)
