-- What lies in an accepted datagram is readable: each of its ranges that is read here has the fields of that reading. By frames. Assumes nothing.
use Prim.Native.Nat.{ℕ, zero, suc, ◌+◌, ◌-◌, ◌≤◌}
use mathlib.Core.Path.{◌≡◌, refl, sym, ap, ◌∙◌, subst}
use mathlib.Core.Bool.{Bool, true, false, cond}
use mathlib.Core.List.{List, [], ◌∷◌}
use native.Mathlib.Omega.{arith}
use lib.Dec.{eqb, leb}
use lib.ListN.{length, take}
use Rattle.reading.specs.Script.{Value, Range, Forest, Found, nothing, Script, give}
use Rattle.reading.specs.Cursor.{Place, Out, got, stop, Reader, times, follow}
use Rattle.reading.specs.Layout.{Mode, Field, fields, Row, ◌⟼◌, ◌⟼◌each◌, last_number, opened, Fixed, fixed_rows, ranged, between, framed, pdu, flows, flow, counters, counter, samples, sample, header, datagram}
use Rattle.reading.specs.Sizes.{depth_limit}
use Rattle.reading.specs.Answer.{from, run_ender, tried, datagrams, layout_of}
use Rattle.reading.proofs.Items.{never, split, either}
use Rattle.reading.proofs.Stands.{place}
use Rattle.reading.proofs.Steps.{unstepped}
use Rattle.reading.proofs.Fields.{fields_out, fields_then}
use Rattle.reading.proofs.Counts.{repeat_is}
use Rattle.reading.proofs.Frames.{Frame, frame_read, span_fits, pdu_read}
use Rattle.reading.proofs.Room.{whole, datagram_is, datagram_on}
use Rattle.reading.proofs.Exactly.{ended}
use Rattle.reading.proofs.Holding.{read_here, behind, sample_is, flow_is, counter_is, up_to, Holds, Readable, none, also, joined, wide}

-- ---- what is read, is readable

-- where a reader accepts, what it found is readable
abbrev Good : Mode → Reader Found → Type 0
Good mode r = (s : List ℕ) (p : Place) (a : Found) (q : Place) → r s p ≡ got a q → Readable mode s a.ranges

ranges_are : {mode : Mode} {s : List ℕ} {a b : Found} {p q : Place} → got a p ≡ got b q → Readable mode s a.ranges → Readable mode s b.ranges
ranges_are {mode} {s} {a} {b} e h = let x : a ≡ b = cc in subst (λ (c : Found). Readable mode s c.ranges) x h

good_none : (mode : Mode) → Good mode (follow (give nothing))
unfolding follow
good_none mode s p a q e = ranges_are e none

good_times : (mode : Mode) (r : Reader Found) → Good mode r → (n : ℕ) → Good mode (times n r)
unfolding times
good_times mode r h zero s p a q e = ranges_are e none
good_times mode r h (suc n) s p a q e =
    let w = split (r s p) _ e in
    let v = split (times n r s w.place) _ w.second in
    ranges_are v.second (joined (h s p w.value w.place w.first) (good_times mode r h n s w.place v.value v.place v.first))

good_fields : (mode : Mode) (l : List Field) (more : List Value → Script) → ((vs : List Value) → Good mode (follow (more vs))) → Good mode (follow (fields l more))
good_fields mode l more h s p a q e = let w = split (fields_out l s p) _ (sym (fields_then l more s p) ∙ e) in h w.value s w.place a q w.second

-- a table, of which each row is good
data Rows (mode : Mode) : List Row → Type 0 where
  over : Rows mode []
  flat : {g : ℕ} {l : List Field} {rest : List Row} → Rows mode rest → Rows mode ((g ⟼ l) ∷ rest)
  counts : {g : ℕ} {l : List Field} {body : Script} {rest : List Row} → Good mode (follow body) → Rows mode rest → Rows mode ((g ⟼ l each body) ∷ rest)

good_opened : {mode : Mode} {rows : List Row} → Rows mode rows → (f : ℕ) → Good mode (follow (opened rows f))
unfolding opened
good_opened {mode} over f = good_none mode
good_opened {mode} (flat {g} {l} t) f = either (λ (sc : Script). Good mode (follow sc)) (eqb g f) (good_fields mode l _ (λ vs. good_none mode)) (good_opened t f)
good_opened {mode} (counts {g} {l} {body} h t) f =
    either (λ (sc : Script). Good mode (follow sc)) (eqb g f)
    (good_fields mode l _ (λ vs s p a q e. good_times mode (follow body) h (last_number vs) s p a q (sym (repeat_is (last_number vs) body s p) ∙ e)))
    (good_opened t f)

-- ---- frames

-- a range whose fields and rest were read, held to it
fields_held : (mode : Mode) (s : List ℕ) (r : Range) (n : ℕ) {a : Found} {q : Place} → r.span.start + r.span.count ≤ length s
    → follow (fields (layout_of mode r.kind r.format) (behind mode r.kind r.format r.depth)) (up_to s r) (place r.span.start n) ≡ got a q
    → (vs : List Value) × Holds mode s r vs a.ranges
fields_held mode s r n {a} {q} h e =
    let u = unstepped (fields (layout_of mode r.kind r.format) (behind mode r.kind r.format r.depth)) (up_to s r) (place r.span.start n) (from r.span.start) refl e in
    let w = split (fields_out (layout_of mode r.kind r.format) (up_to s r) (from r.span.start)) _ (sym (fields_then _ _ (up_to s r) (from r.span.start)) ∙ u.1) in
    (w.value, record { next = w.place; fields = record { lies = h; reads = w.first }; found = a; last = u.0; rest = w.second; ranges = refl })

-- a frame whose body, where it is read here, is the fields and what is behind them
good_framed : (mode : Mode) (kind depth : ℕ) (body : ℕ → Script) → ((f : ℕ) → read_here kind f ≡ true → body f ≡ fields (layout_of mode kind f) (behind mode kind f depth))
    → ((f : ℕ) → Good mode (follow (body f))) → Good mode (follow (framed kind depth body))
good_framed mode kind depth body is good s p a q e = go (frame_read kind depth body s p e)
  where
    go : Frame kind depth body s p a q → Readable mode s a.ranges
    go f =
        let r : Range = record { kind = kind; format = f.format; span = f.span; depth = depth; first = p.at } in
        subst (λ (b : Found). Readable mode s b.ranges) (sym f.found)
        (also {r = r} (λ h. fields_held mode s r f.steps (span_fits f) (rw (is f.format h) at f.held))
        (wide mode s (f.span.start + f.span.count) (good f.format (up_to s r) (place f.span.start f.steps) f.inner f.last f.held)) none)

good_pdu : (mode : Mode) (depth : ℕ) (body : Script) → Good mode (follow body) → Good mode (follow (pdu depth body))
unfolding read_here
good_pdu mode depth body h s p a q e =
    let f = pdu_read depth body s p e in
    subst (λ (b : Found). Readable mode s b.ranges) (sym f.found)
    (also (λ k. let z : ◌≡◌ {A = ℕ} 0 1 = cc in absurd (omega arith)) (good_times mode (follow body) h f.count s f.first f.inner q f.held) none)

good_flows : (mode : Mode) (inner : Script) → Good mode (follow inner) → Rows mode (flows mode inner)
unfolding flows
good_flows mode inner h = search (flat, counts, over) depth 200

good_fixed : (mode : Mode) (t : List Fixed) → Rows mode (fixed_rows t)
good_fixed mode [] = over
good_fixed mode (x ∷ t) = flat (good_fixed mode t)

good_flow : (mode : Mode) (left : ℕ) → left ≤ depth_limit → Good mode (follow (flow mode depth_limit left))
unfolding flow follow
good_flow mode zero i = λ s p a q e. never e
good_flow mode (suc left) i =
    let d : depth_limit - (depth_limit - left) ≡ left = omega arith in
    good_framed mode 2 (depth_limit - left) (opened (flows mode (pdu (depth_limit - left) (flow mode depth_limit left))))
    (λ f h. rw d at (flow_is mode (depth_limit - left) f h))
    (good_opened (good_flows mode _ (good_pdu mode (depth_limit - left) (flow mode depth_limit left) (good_flow mode left (omega arith)))))

good_sample : (mode : Mode) → Good mode (follow (sample mode depth_limit))
unfolding samples
good_sample mode =
    let f : Good mode (follow (flow mode depth_limit depth_limit)) = good_flow mode depth_limit (omega arith) in
    let c : Good mode (follow counter) = good_framed mode 3 1 (opened (fixed_rows counters)) (counter_is mode) (good_opened (good_fixed mode counters)) in
    good_framed mode 1 0 (opened (samples mode depth_limit)) (sample_is mode) (good_opened (counts f (counts c (counts f (counts c (counts f over))))))

-- ---- a datagram

-- a datagram that was read from p to q: one range, its header's values, and its samples
pub record DatagramOf (mode : Mode) (s : List ℕ) (p : Place) (a : Found) (q : Place) : Type 0 where
  pub inner : Forest
  pub ranges : a.ranges ≡ ranged 0 0 0 p.at (between p.at q.at) inner
  pub holds : Holds mode s (record { kind = 0; format = 0; span = between p.at q.at; depth = 0; first = p.at }) a.values inner
  pub readable : Readable mode s inner

module _ (mode : Mode) (s : List ℕ) (p : Place) {a : Found} {q : Place} (i : p.at ≤ length s) (e : follow (datagram mode) s p ≡ got a q) where
  pub datagram_of : DatagramOf mode s p a q
  unfolding layout_of behind
  datagram_of =
      let o = datagram_on mode depth_limit s p i e in
      let n : q.at ≡ p.at + (q.at - p.at) = omega (arith, o.0) in
      let t = take (p.at + (q.at - p.at)) s in
      let u = unstepped (datagram mode) t p (from p.at) refl (ap (λ (m : ℕ). follow (datagram mode) (take m s) p) (sym n) ∙ ended (datagram mode) s p i e) in
      let w = split (fields_out header t (from p.at)) _ (sym (datagram_is mode depth_limit t (from p.at)) ∙ u.1) in
      let v = split (times (last_number w.value) (follow (sample mode depth_limit)) t w.place) _ w.second in
      parts u.0 w.value w.place v.value v.place (omega (arith, o.1, n)) u.2 w.first v.first v.second
    where
      parts : (j : Place) (vs : List Value) (x : Place) (r : Found) (y : Place)
          → p.at + (q.at - p.at) ≤ length s → j.at ≡ q.at
          → fields_out header (take (p.at + (q.at - p.at)) s) (from p.at) ≡ got vs x
          → times (last_number vs) (follow (sample mode depth_limit)) (take (p.at + (q.at - p.at)) s) x ≡ got r y
          → got (whole p.at vs r y) y ≡ got a j
          → DatagramOf mode s p a q
      parts j vs x r y l k f g h =
          let b : whole p.at vs r y ≡ a = cc in
          let c : y ≡ j = cc in
          let d : y.at ≡ q.at = ap (λ (z : Place). z.at) c ∙ k in
          let m : vs ≡ a.values = ap (λ (z : Found). z.values) b in
          record {
            inner = r.ranges;
            ranges = sym (ap (λ (z : Found). z.ranges) b) ∙ ap (λ (z : ℕ). ranged 0 0 0 p.at (between p.at z) r.ranges) d;
            holds = subst (λ (z : List Value). Holds mode s (record { kind = 0; format = 0; span = between p.at q.at; depth = 0; first = p.at }) z r.ranges) m
                (record { next = x; fields = record { lies = l; reads = f }; found = r; last = y; rest = repeat_is (last_number vs) (sample mode depth_limit) _ x ∙ g; ranges = refl });
            readable = wide mode s (p.at + (q.at - p.at)) (good_times mode (follow (sample mode depth_limit)) (good_sample mode) (last_number vs) _ x r y g);
          }

  pub accepted_readable : Readable mode s a.ranges
  accepted_readable = subst (Readable mode s) (sym datagram_of.ranges) (also (λ h. (a.values, datagram_of.holds)) datagram_of.readable none)

-- ---- a run of datagrams

pub run_readable : (mode : Mode) (fuel : ℕ) (s : List ℕ) (p : Place) {a : Found} {q : Place} → p.at ≤ length s → datagrams mode fuel s p ≡ got a q → Readable mode s a.ranges
unfolding datagrams tried
run_readable mode zero s p h e = ranges_are e none
run_readable mode (suc fuel) s p {a} {q} h e = go (λ r b v. run_readable mode fuel s r {a = b} {q = v}) (leb (length s) p.at) (follow (datagram mode) s p) refl e
  where
    go : ((r : Place) (b : Found) (v : Place) → r.at ≤ length s → datagrams mode fuel s r ≡ got b v → Readable mode s b.ranges)
        → (t : Bool) (o : Out Found) → follow (datagram mode) s p ≡ o → cond t (got nothing p) (tried o p (datagrams mode fuel s)) ≡ got a q → Readable mode s a.ranges
    go again true o f e = ranges_are e none
    go again false (got d r) f e =
        let v = split (datagrams mode fuel s r) _ e in
        ranges_are v.second (joined (accepted_readable mode s p h f) (again r v.value v.place (datagram_on mode depth_limit s p h f).1 v.first))
    go again false (stop c i n) f e = ends (eqb c run_ender) e
      where
        ends : (t : Bool) → cond t (got nothing (record { at = p.at; steps = n })) (stop c i n) ≡ got a q → Readable mode s a.ranges
        ends true e = ranges_are e none
        ends false e = never e
