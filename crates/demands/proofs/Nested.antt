-- Demand 3: in an accepted input each child's range lies inside its parent's, and a sibling begins at or after the end of the one before, pads
-- included.
-- Said of the forest of ranges, by frames; `Placed` says it of the store. Assumes nothing.
use Prim.Native.Nat.{ℕ, zero, suc, ◌+◌, ◌-◌, ◌≤◌, ◌<◌}
use mathlib.Core.Path.{◌≡◌, refl, sym, ◌∙◌, subst}
use mathlib.Core.Bool.{Bool, true, false, cond}
use mathlib.Core.List.{List, [], ◌∷◌}
use native.Mathlib.Omega.{arith}
use native.Mathlib.Nat.{le_refl}
use lib.Dec.{eqb, leb}
use lib.ListN.{length, take}
use Rattle.reading.specs.Script.{Value, Range, Forest, ◌⊕◌, Found, nothing, Script, give}
use Rattle.reading.specs.Cursor.{Place, Out, got, stop, Reader, times, follow}
use Rattle.reading.specs.Layout.{Mode, Field, fields, Row, ◌⟼◌, ◌⟼◌each◌, last_number, opened, Fixed, fixed_rows, ranged, between, framed, pdu, flows, flow, counters, counter, samples, sample, header, datagram_to, datagram}
use Rattle.reading.specs.Sizes.{depth_limit}
use Rattle.reading.specs.Answer.{tried, datagrams}
use Rattle.demands.specs.Nested.{end, last, Level, top, inside, KindAt, Led, inner_from, Nested, none, next}
use Rattle.demands.proofs.Aligned.{Words, no_pad, and_then, Aligned, aligned_flow, aligned_sample, aligned_times, aligned_header}
use Rattle.reading.proofs.Items.{never, split, either}
use Rattle.reading.proofs.Stands.{place}
use Rattle.reading.proofs.Bounds.{Owes, owes}
use Rattle.reading.proofs.Fields.{fields_out, fields_then}
use Rattle.reading.proofs.Counts.{repeat_is}
use Rattle.reading.proofs.Frames.{Frame, frame_read, span_length, Pdu, pdu_read}
use Rattle.reading.proofs.Room.{whole, datagram_is, header_on}

-- a first byte is not behind its range's, and what is inside begins a word after it
pub led : (v : Level) (r : Range) → Led v r → r.first ≤ r.span.start
led top r h = omega arith
led inside r h = omega arith

pub leads : (v : Level) (r : Range) → Led v r → (r.first + 4 ≤ inner_from v r) × (r.span.start ≤ inner_from v r)
leads top r h = (omega arith, omega arith)
leads inside r h = (omega arith, omega arith)

pub forward : {v : Level} {lo hi : ℕ} {f : Forest} → Nested v lo hi f → lo ≤ hi
forward (none h) = h
forward (next {v = v} {r = r} k h l i j) = let a = forward i in let b = forward j in let c = leads v r l in omega (arith, c.0)

-- from further before
pub sooner : {v : Level} {lo hi : ℕ} {f : Forest} (m : ℕ) → m ≤ lo → Nested v lo hi f → Nested v m hi f
sooner {hi = hi} m k (none h) = let z : m ≤ hi = omega arith in none z
sooner m k (next {r = r} l h d i j) = let z : m ≤ r.first = omega arith in next l z d i j

-- to further behind
pub later : {v : Level} {lo hi : ℕ} {f : Forest} (m : ℕ) → hi ≤ m → Nested v lo hi f → Nested v lo m f
later {lo = lo} m k (none h) = let z : lo ≤ m = omega arith in none z
later m k (next l h d i j) = next l h d i (later m k j)

pub joined : {v : Level} {lo m hi : ℕ} {f g : Forest} → Nested v lo m f → Nested v m hi g → Nested v lo hi (f ⊕ g)
joined {lo = lo} (none h) k = sooner lo h k
joined (next l h d i j) k = next l h d i (joined j k)

-- ---- what a reader accepts, it found between where it began and where it ended

abbrev pub Orderly : Level → Reader Found → Type 0
Orderly v r = (s : List ℕ) (p : Place) (a : Found) (q : Place) → p.at ≤ length s → r s p ≡ got a q → Nested v p.at q.at a.ranges

-- a script goes forward, and stays inside
onward : (sc : Script) (s : List ℕ) (p : Place) {a : Found} {q : Place} → p.at ≤ length s → follow sc s p ≡ got a q → (p.at ≤ q.at) × (q.at ≤ length s)
unfolding Owes
onward sc s p h e = let o = rw e at (owes sc s p h) in (o.0, o.1)

fields_onward : (l : List Field) (s : List ℕ) (p : Place) {vs : List Value} {q : Place} → p.at ≤ length s → fields_out l s p ≡ got vs q → (p.at ≤ q.at) × (q.at ≤ length s)
unfolding follow
fields_onward l s p {q = q} h e = onward (fields l (λ _. give nothing)) s p {a = nothing} {q = q} h (fields_then l (λ _. give nothing) s p ∙ rw e)

moved : {v : Level} {lo : ℕ} {a b : Found} {p q : Place} → got a p ≡ got b q → Nested v lo p.at a.ranges → Nested v lo q.at b.ranges
moved {v} {lo} {a} {b} {p} {q} e h =
    let x : a ≡ b = cc in
    let y : p ≡ q = cc in
    subst (λ (c : Found). Nested v lo q.at c.ranges) x (subst (λ (r : Place). Nested v lo r.at a.ranges) y h)

orderly_none : Orderly inside (follow (give nothing))
unfolding follow
orderly_none s p a q h e = moved e (none (le_refl _))

orderly_times : (sc : Script) → Orderly inside (follow sc) → (n : ℕ) → Orderly inside (times n (follow sc))
unfolding times
orderly_times sc o zero s p a q h e = moved e (none (le_refl _))
orderly_times sc o (suc n) s p a q h e =
    let w = split (follow sc s p) _ e in
    let v = split (times n (follow sc) s w.place) _ w.second in
    let i = onward sc s p h w.first in
    moved v.second (joined (o s p w.value w.place h w.first) (orderly_times sc o n s w.place v.value v.place i.1 v.first))

orderly_fields : (l : List Field) (more : List Value → Script) → ((vs : List Value) → Orderly inside (follow (more vs))) → Orderly inside (follow (fields l more))
orderly_fields l more o s p a q h e =
    let w = split (fields_out l s p) _ (sym (fields_then l more s p) ∙ e) in
    let i = fields_onward l s p h w.first in
    sooner p.at i.0 (o w.value s w.place a q i.1 w.second)

data Rows : List Row → Type 0 where
  over : Rows []
  flat : {g : ℕ} {l : List Field} {rest : List Row} → Rows rest → Rows ((g ⟼ l) ∷ rest)
  counts : {g : ℕ} {l : List Field} {body : Script} {rest : List Row} → Orderly inside (follow body) → Rows rest → Rows ((g ⟼ l each body) ∷ rest)

orderly_opened : {rows : List Row} → Rows rows → (f : ℕ) → Orderly inside (follow (opened rows f))
unfolding opened
orderly_opened over f = orderly_none
orderly_opened (flat {g} {l} t) f = either (λ (sc : Script). Orderly inside (follow sc)) (eqb g f) (orderly_fields l _ (λ vs. orderly_none)) (orderly_opened t f)
orderly_opened (counts {g} {l} {body} o t) f =
    either (λ (sc : Script). Orderly inside (follow sc)) (eqb g f)
    (orderly_fields l _ (λ vs s p a q h e. orderly_times body o (last_number vs) s p a q h (sym (repeat_is (last_number vs) body s p) ∙ e)))
    (orderly_opened t f)

-- ---- frames

orderly_framed : (kind depth : ℕ) (body : ℕ → Script) → 0 < kind → ((f : ℕ) → Orderly inside (follow (body f))) → Orderly inside (follow (framed kind depth body))
orderly_framed kind depth body z o s p a q h e = go (frame_read kind depth body s p e)
  where
    leads : (f : Frame kind depth body s p a q) → p.at + 8 ≤ f.span.start
    leads f = omega (arith, f.start)

    at_end : (f : Frame kind depth body s p a q) → last f.span ≤ q.at
    at_end f = omega (arith, f.start, f.end)

    go : Frame kind depth body s p a q → Nested inside p.at q.at a.ranges
    go f =
        let l = span_length f in
        let i : f.span.start ≤ length (take (f.span.start + f.span.count) s) = rw l (omega arith) in
        let j = onward (body f.format) _ (place f.span.start f.steps) i f.held in
        let n = o f.format _ (place f.span.start f.steps) f.inner f.last i f.held in
        subst (λ (b : Found). Nested inside p.at q.at b.ranges) (sym f.found)
        (next z (le_refl _) (omega (arith, leads f)) (later (end f.span) (omega (arith, l, j.1)) n) (none (at_end f)))

-- from where it begins to where it ends, which is whole words, with its first byte at o
spanned : {v : Level} {a e : ℕ} {f : Forest} (kind format depth o : ℕ) → KindAt v kind → Led v (record { kind = kind; format = format; span = between a e; depth = depth; first = o }) → Words a e
    → Nested inside (inner_from v (record { kind = kind; format = format; span = between a e; depth = depth; first = o })) e f → Nested v o e (ranged kind format depth o (between a e) f)
spanned {v} {a} {e} kind format depth o k d w h =
    let l = forward h in
    let m = leads v (record { kind = kind; format = format; span = between a e; depth = depth; first = o }) d in
    let x : last (between a e) ≤ e = omega (arith, no_pad w, m.1) in
    next k (le_refl _) d (later (a + (e - a)) (omega (arith, m.1)) h) (none x)

orderly_pdu : (depth : ℕ) (body : Script) → Aligned (follow body) → Orderly inside (follow body) → Orderly inside (follow (pdu depth body))
orderly_pdu depth body w o s p a q h e = go (pdu_read depth body s p e)
  where
    four : ◌<◌ 0 4
    four = omega arith

    go : Pdu depth body s p a q → Nested inside p.at q.at a.ranges
    go f =
        subst (λ (b : Found). Nested inside p.at q.at b.ranges) (sym f.found)
        (spanned 4 0 depth p.at four (omega (arith, f.start)) (aligned_times body w f.count s f.first f.inner q f.held) (orderly_times body o f.count s f.first f.inner q (rw f.start f.fits) f.held))

orderly_flows : (mode : Mode) (inner : Script) → Orderly inside (follow inner) → Rows (flows mode inner)
unfolding flows
orderly_flows mode inner h = search (flat, counts, over) depth 200

orderly_flow : (mode : Mode) (limit left : ℕ) → Orderly inside (follow (flow mode limit left))
unfolding flow follow
orderly_flow mode limit zero = λ s p a q h e. never e
orderly_flow mode limit (suc left) =
    let inner = pdu (limit - left) (flow mode limit left) in
    orderly_framed 2 (limit - left) (opened (flows mode inner)) (omega arith) (orderly_opened (orderly_flows mode inner (orderly_pdu (limit - left) (flow mode limit left) (aligned_flow mode limit left) (orderly_flow mode limit left))))

orderly_fixed : (t : List Fixed) → Rows (fixed_rows t)
orderly_fixed [] = over
orderly_fixed (x ∷ t) = flat (orderly_fixed t)

orderly_sample : (mode : Mode) (limit : ℕ) → Orderly inside (follow (sample mode limit))
unfolding samples
orderly_sample mode limit =
    let f : Orderly inside (follow (flow mode limit limit)) = orderly_flow mode limit limit in
    let c : Orderly inside (follow counter) = orderly_framed 3 1 (opened (fixed_rows counters)) (omega arith) (orderly_opened (orderly_fixed counters)) in
    orderly_framed 1 0 (opened (samples mode limit)) (omega arith) (orderly_opened (counts f (counts c (counts f (counts c (counts f over))))))

-- ---- a datagram, and a run of them

pub datagram_nested : (mode : Mode) (limit : ℕ) → Orderly top (follow (datagram_to mode limit))
datagram_nested mode limit s p a q h e =
    let w = split (fields_out header s p) _ (sym (datagram_is mode limit s p) ∙ e) in
    let i = header_on s p h w.first in
    let v = split (times (last_number w.value) (follow (sample mode limit)) s w.place) _ w.second in
    let k = and_then (aligned_header s p w.value w.place w.first) (aligned_times (sample mode limit) (aligned_sample mode limit) (last_number w.value) s w.place v.value v.place v.first) in
    moved {a = whole p.at w.value v.value v.place} v.second (spanned 0 0 0 p.at refl refl k (sooner (p.at + 4) (omega (arith, i.0)) (orderly_times (sample mode limit) (orderly_sample mode limit) (last_number w.value) s w.place v.value v.place i.1 v.first)))

pub run_nested : (mode : Mode) (fuel : ℕ) → Orderly top (datagrams mode fuel)
unfolding datagrams tried
run_nested mode zero s p a q h e = moved e (none (le_refl _))
run_nested mode (suc fuel) s p a q h e = go (λ r b v. run_nested mode fuel s r b v) (leb (length s) p.at) (follow (datagram mode) s p) refl e
  where
    go : ((r : Place) (b : Found) (v : Place) → r.at ≤ length s → datagrams mode fuel s r ≡ got b v → Nested top r.at v.at b.ranges)
        → (t : Bool) (o : Out Found) → follow (datagram mode) s p ≡ o → cond t (got nothing p) (tried o p (datagrams mode fuel s)) ≡ got a q → Nested top p.at q.at a.ranges
    go again true o f e = moved e (none (le_refl _))
    go again false (got d r) f e =
        let v = split (datagrams mode fuel s r) _ e in
        moved v.second (joined (datagram_nested mode depth_limit s p d r h f) (again r v.value v.place (onward (datagram mode) s p h f).1 v.first))
    go again false (stop c i n) f e = ends (eqb c 2) e
      where
        ends : (t : Bool) → cond t (got nothing (record { at = p.at; steps = n })) (stop c i n) ≡ got a q → Nested top p.at q.at a.ranges
        ends true e = moved e (none (le_refl _))
        ends false e = never e
