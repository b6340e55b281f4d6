-- What the pads of an accepted input hold does not matter to field reading, of any of its descriptors: by fields, then by frames. Assumes nothing.
use Prim.Native.Nat.{ℕ, zero, suc, ◌+◌, ◌*◌, ◌-◌, ◌≤◌, ◌<◌}
use mathlib.Core.Path.{◌≡◌, refl, sym, ap, ◌∙◌, subst}
use mathlib.Core.Bool.{Bool, true, false, cond}
use mathlib.Core.List.{List, [], ◌∷◌, ◌++◌}
use native.Mathlib.Omega.{arith}
use borrow.Author.Tests.{le-leb, eqb-true}
use lib.Dec.{eqb, leb}
use lib.ListN.{length, take, drop, replicate, length-take}
use lib.Seq.{take-take, length-take-le}
use Rattle.reading.specs.Utf8.{◌&◌}
use Rattle.reading.specs.Script.{four, eight, sixteen, Value, octets, address, part, Range, Forest, bare, tree, ◌⊕◌, Found, nothing, Item, word, tested, block, Script, give, item, within, repeat}
use Rattle.reading.specs.Cursor.{Place, Out, got, then, read_item, times, held_to, follow}
use Rattle.reading.specs.Layout.{Mode, num, oct, Field, plain, mac, addr, list, segments, address_of, any_word, segment, run_of, field, fields, Row, ◌⟼◌, ◌⟼◌each◌, last_number, opened, Fixed, fixed_rows, only, ranged, framed, pdu, flows, flow, counters, counter, samples, sample, header, datagram_to}
use Rattle.reading.specs.Sizes.{longest_input, descriptor_words}
use Rattle.reading.specs.Values.{alone, valued, reading}
use Rattle.reading.specs.Answer.{from, nobody, size, room, one, unread, layout_at, layout_of, answered, read}
use Rattle.reading.proofs.Items.{never}
use Rattle.reading.proofs.Stands.{place}
use Rattle.reading.proofs.Fields.{address_out, run_out, field_out, fields_out, fields_then}
use Rattle.reading.proofs.Sound.{sound}
use Rattle.reading.proofs.Complete.{complete}
use Rattle.reading.proofs.Exactly.{ended, longer}
use Rattle.reading.proofs.Holding.{up_to}
use Rattle.reading.proofs.Descriptors.{Among, this, inside, later, stands_in}
use Rattle.demands.specs.FieldsItemised.{only_values}
use Rattle.demands.specs.Readings.{Allowed}
use Rattle.demands.specs.Pads.{SameButPads}
use Rattle.demands.specs.DescriptorFields.{range}
use Rattle.demands.proofs.Fielded.{range_is}
use Rattle.demands.proofs.Itemised.{accepted_reads, reading_answers, one_whole}
use Rattle.demands.proofs.Accepted.{one_reads}
use Rattle.demands.proofs.Pads.{onward, times_onward, Alike, AlikeTimes, Goes, WithinGoes, here_goes, item_goes, turn_goes, repeat_goes, within_goes, within_lies, times_again, again, reading_alike}

-- ---- fields: what was read of s is read of t, and what follows is alike

-- an item, of whose value another is made
made_goes : {s t : List ℕ} {p : Place} {a : Found} {q : Place} (j : Item) (f : Value → Value) (k : Value → Script) → Alike (item j (λ v. k (f v))) s t p a q
    → Goes (then (read_item j s p) (λ v z. got (f v) z)) (then (read_item j t p) (λ v z. got (f v) z)) k s t a q
made_goes j f k b = let c = item_goes j _ b in record { value = f c.value; next = c.next; first = rw c.first; again = rw c.again; rest = c.rest }

-- an address, by its type
address_goes : {s t : List ℕ} {p : Place} {a : Found} {q : Place} (n : ℕ) (k : Value → Script) → Alike (address_of n k) s t p a q → Goes (address_out n s p) (address_out n t p) k s t a q
unfolding address_of address_out
address_goes {p = p} zero k b = record { value = address 0 (replicate 16 0); next = p; first = refl; again = refl; rest = b }
address_goes (suc zero) k b = made_goes (block four) (λ v. address 1 (oct v ++ replicate 12 0)) k b
address_goes (suc (suc n)) k b = made_goes (block sixteen) (λ v. address 2 (oct v)) k b

-- a count word and that many
run_goes : {s t : List ℕ} {p : Place} {a : Found} {q : Place} (body : Script) (k : Value → Script) → Alike (run_of body k) s t p a q → Goes (run_out body s p) (run_out body t p) k s t a q
unfolding run_of run_out
run_goes {s} {t} body k b =
    let c = item_goes word _ b in
    let d = repeat_goes (num c.value) body _ (here_goes _ c.rest) in
    record {
      value = part (record { start = c.next.at; count = num c.value });
      next = d.next;
      first = rw (c.first, d.first.reads);
      again = rw (c.again, times_again body (again body) (num c.value) s t c.next d.all d.next d.first);
      rest = d.rest;
    }

field_goes : {s t : List ℕ} {p : Place} {a : Found} {q : Place} (f : Field) (k : Value → Script) → Alike (field f k) s t p a q → Goes (field_out f s p) (field_out f t p) k s t a q
unfolding field field_out
field_goes (plain i) k b = item_goes i k b
field_goes mac k b = made_goes (block eight) (λ v. octets (take 6 (oct v))) k b
field_goes addr k b =
    let c = item_goes (tested (λ t. leb t 2) 4) _ b in
    let d = address_goes (num c.value) k c.rest in
    record { value = d.value; next = d.next; first = rw c.first d.first; again = rw c.again d.again; rest = d.rest }
field_goes list k b = run_goes any_word k b
field_goes segments k b = run_goes segment k b

fields_goes : {s t : List ℕ} {p : Place} {a : Found} {q : Place} (l : List Field) (more : List Value → Script) → Alike (fields l more) s t p a q → Goes (fields_out l s p) (fields_out l t p) more s t a q
unfolding fields fields_out
fields_goes {p = p} [] more b = record { value = []; next = p; first = refl; again = refl; rest = b }
fields_goes {p = p} (f ∷ rest) more b =
    let c = field_goes f _ b in
    let d = fields_goes {p = c.next} rest _ c.rest in
    record { value = c.value ∷ d.value; next = d.next; first = rw (c.first, d.first); again = rw (c.again, d.again); rest = d.rest }

-- ---- a layout, read alone

-- what was read from p is read from its position with no steps before it
anew : (sc : Script) (s : List ℕ) (p : Place) {a : Found} {q : Place} → p.at ≤ length s → follow sc s p ≡ got a q → follow sc s (from p.at) ≡ got a (place q.at (q.steps - p.steps))
anew sc s p {a} {q} h e =
    let r = sound sc s p a q h e in
    let n : 0 + r.items ≡ q.steps - p.steps = omega (arith, r.steps) in
    complete sc s r.read r.rest a p.at 0 r.items r.is r.stands ∙ ap (λ (z : Place). got a z) (λ j. record { at = sym r.at j; steps = n j })

-- so what both gave alike from p, both give alike from there
both_anew : (sc : Script) (s t : List ℕ) (p : Place) {a : Found} {q : Place} → p.at ≤ length s → p.at ≤ length t → follow sc s p ≡ got a q → follow sc t p ≡ got a q
    → follow sc t (from p.at) ≡ follow sc s (from p.at)
both_anew sc s t p h k e f = anew sc t p k f ∙ sym (anew sc s p h e)

-- the fields of a layout that were read are the layout, read alone
alone_first : (l : List Field) (s : List ℕ) (p : Place) {vs : List Value} {q : Place} → fields_out l s p ≡ got vs q → follow (alone l) s p ≡ got (only_values vs) q
unfolding follow
alone_first l s p e = fields_then l _ s p ∙ rw e

-- ---- ranges

-- of each range of a forest
data Each (P : Range → Type 0) : Forest → Type 0 where
  none : Each P bare
  also : {r : Range} {inner after : Forest} → P r → Each P inner → Each P after → Each P (tree r inner after)

each_joined : {P : Range → Type 0} {f g : Forest} → Each P f → Each P g → Each P (f ⊕ g)
each_joined none k = k
each_joined (also h i j) k = also h i (each_joined j k)

each_as : {P Q : Range → Type 0} {f : Forest} → ((r : Range) → P r → Q r) → Each P f → Each Q f
each_as m none = none
each_as m (also {r} h i j) = also (m r h) (each_as m i) (each_as m j)

each_of : {P : Range → Type 0} {r : Range} {inner f : Forest} → Each P f → Among r inner f → P r
each_of none m = elim m [ ]
each_of (also h i j) this = h
each_of (also h i j) (inside m) = each_of i m
each_of (also h i j) (later m) = each_of j m

-- the layout of a range, read alone
abbrev own : Mode → Range → Script
own mode r = alone (layout_of mode r.kind r.format)

-- a range lies in s and in t, and its layout, read alone from its start and held to it, gives the same of both
record SameFields (mode : Mode) (s t : List ℕ) (r : Range) : Type 0 where
  in_s : r.span.start + r.span.count ≤ length s
  in_t : r.span.start + r.span.count ≤ length t
  same : follow (own mode r) (up_to t r) (from r.span.start) ≡ follow (own mode r) (up_to s r) (from r.span.start)

-- what is so in a part of both is so in both
widened : (mode : Mode) (s t : List ℕ) (m : ℕ) (r : Range) → SameFields mode (take m s) (take m t) r → SameFields mode s t r
widened mode s t m r h =
    let x = length-take m s in
    let y = length-take m t in
    let c : up_to (take m s) r ≡ up_to s r = take-take (r.span.start + r.span.count) m s (omega (arith, h.in_s)) in
    let d : up_to (take m t) r ≡ up_to t r = take-take (r.span.start + r.span.count) m t (omega (arith, h.in_t)) in
    record { in_s = omega (arith, h.in_s); in_t = omega (arith, h.in_t); same = rw (c, d) at h.same }

-- ---- scripts whose ranges have the same fields

-- each range that the script found in s has the same fields in a t that is alike
abbrev Good : Mode → Script → Type 0
Good mode sc = (s t : List ℕ) (p : Place) (a : Found) (q : Place) → Alike sc s t p a q → Each (SameFields mode s t) a.ranges

ranges_are : {mode : Mode} {s t : List ℕ} {a b : Found} {p q : Place} → got a p ≡ got b q → Each (SameFields mode s t) a.ranges → Each (SameFields mode s t) b.ranges
ranges_are {mode} {s} {t} {a} {b} e h = let x : a ≡ b = cc in subst (λ (c : Found). Each (SameFields mode s t) c.ranges) x h

good_none : (mode : Mode) → Good mode (give nothing)
unfolding follow
good_none mode s t p a q b = ranges_are b.reads none

good_times : (mode : Mode) (sc : Script) → Good mode sc → (n : ℕ) (s t : List ℕ) (p : Place) (a : Found) (q : Place) → AlikeTimes n sc s t p a q → Each (SameFields mode s t) a.ranges
unfolding times
good_times mode sc g zero s t p a q b = ranges_are b.reads none
good_times mode sc g (suc n) s t p a q b =
    let c = turn_goes n sc b in
    subst (λ (f : Found). Each (SameFields mode s t) f.ranges) c.found (each_joined (g s t p c.one c.next c.first) (good_times mode sc g n s t c.next c.others q c.rest))

good_each : (mode : Mode) (n : ℕ) (sc : Script) → Good mode sc → Good mode (repeat n sc (λ a. give a))
unfolding follow
good_each mode n sc g s t p a q b = let c = repeat_goes n sc _ b in ranges_are c.rest.reads (good_times mode sc g n s t p c.all c.next c.first)

-- a good script that begins with a layout, which gives the same of s and t where it is read alone
record Opens (mode : Mode) (l : List Field) (sc : Script) : Type 0 where
  alone_same : (s t : List ℕ) (p : Place) (a : Found) (q : Place) → Alike sc s t p a q → follow (alone l) t (from p.at) ≡ follow (alone l) s (from p.at)
  good : Good mode sc

opens_fields : (mode : Mode) (l : List Field) (more : List Value → Script) → ((vs : List Value) → Good mode (more vs)) → Opens mode l (fields l more)
opens_fields mode l more g = record {
  alone_same = λ s t p a q b.
      let c = fields_goes l more b in
      let o = onward (fields l more) s p b.fits b.reads in
      both_anew (alone l) s t p b.fits (omega (arith, o.0, b.room)) (alone_first l s p c.first) (alone_first l t p c.again);
  good = λ s t p a q b. let c = fields_goes l more b in g c.value s t c.next a q c.rest;
}

either_opens : (mode : Mode) (b : Bool) {l m : List Field} {x y : Script} → Opens mode l x → Opens mode m y → Opens mode (cond b l m) (cond b x y)
either_opens mode true f g = f
either_opens mode false f g = g

-- a table, of which each row is good
data Rows (mode : Mode) : List Row → Type 0 where
  over : Rows mode []
  flat : {g : ℕ} {l : List Field} {rest : List Row} → Rows mode rest → Rows mode ((g ⟼ l) ∷ rest)
  counts : {g : ℕ} {l : List Field} {body : Script} {rest : List Row} → Good mode body → Rows mode rest → Rows mode ((g ⟼ l each body) ∷ rest)

opens_rows : {mode : Mode} {rows : List Row} → Rows mode rows → (f : ℕ) → Opens mode (layout_at rows f) (opened rows f)
unfolding opened fields
opens_rows {mode} over f = opens_fields mode [] (λ vs. give nothing) (λ vs. good_none mode)
opens_rows {mode} (flat {g} {l} t) f = either_opens mode (eqb g f) (opens_fields mode l _ (λ vs. good_none mode)) (opens_rows t f)
opens_rows {mode} (counts {g} {l} {body} h t) f = either_opens mode (eqb g f) (opens_fields mode l _ (λ vs. good_each mode (last_number vs) body h)) (opens_rows t f)

-- ---- frames

-- an opaque that holds the range of this kind and format
good_held : (mode : Mode) (kind format depth first : ℕ) (body : Script) → Opens mode (layout_of mode kind format) body → Good mode (within body (λ x a. give (only (ranged kind format depth first x a.ranges))))
unfolding follow
good_held mode kind format depth first body o s t p a q b = go (within_goes body _ b)
  where
    go : WithinGoes body (λ x c. give (only (ranged kind format depth first x c.ranges))) s t p a q → Each (SameFields mode s t) a.ranges
    go d =
        let w = d.read in
        let l = within_lies w in
        let u = held_to w.span s in
        let v = held_to w.span t in
        let i : Place = place w.span.start w.behind.steps in
        ranges_are w.rest
        (also
        (record {
          in_s = omega (arith, l.opened.start, l.opened.fits);
          in_t = omega (arith, l.opened.start, l.opened.at, l.after, b.room);
          same = o.alone_same u v i w.inner w.last d.inside;
        })
        (each_as (widened mode s t (w.span.start + w.span.count)) (o.good u v i w.inner w.last d.inside))
        none)

good_framed : (mode : Mode) (kind depth : ℕ) (body : ℕ → Script) → ((f : ℕ) → Opens mode (layout_of mode kind f) (body f)) → Good mode (framed kind depth body)
good_framed mode kind depth body o s t p a q b =
    let c = item_goes word _ (here_goes _ b) in
    good_held mode kind (num c.value) depth p.at (body (num c.value)) (o (num c.value)) s t c.next a q c.rest

good_pdu : (mode : Mode) (depth : ℕ) (body : Script) → Good mode body → Good mode (pdu depth body)
unfolding follow fields layout_of
good_pdu mode depth body g s t p a q b =
    let c = item_goes word _ (here_goes _ b) in
    let d = repeat_goes (num c.value) body _ (here_goes _ c.rest) in
    let l = times_onward (num c.value) body s c.next d.first.fits d.first.reads in
    ranges_are d.rest.reads
    (also (record { in_s = omega (arith, l.0, l.1); in_t = omega (arith, l.0, d.first.room); same = refl }) (good_times mode body g (num c.value) s t c.next d.all d.next d.first) none)

good_flows : (mode : Mode) (inner : Script) → Good mode inner → Rows mode (flows mode inner)
unfolding flows
good_flows mode inner g = search (flat, counts, over) depth 200

opens_flow : (mode : Mode) (inner : Script) → Good mode inner → (f : ℕ) → Opens mode (layout_of mode 2 f) (opened (flows mode inner) f)
unfolding layout_of flows
opens_flow mode inner g = opens_rows (good_flows mode inner g)

good_flow : (mode : Mode) (levels left : ℕ) → Good mode (flow mode levels left)
unfolding flow follow
good_flow mode levels zero = λ s t p a q b. never b.reads
good_flow mode levels (suc left) =
    let d = levels - left in
    good_framed mode 2 d (opened (flows mode (pdu d (flow mode levels left)))) (opens_flow mode (pdu d (flow mode levels left)) (good_pdu mode d (flow mode levels left) (good_flow mode levels left)))

good_fixed : (mode : Mode) (t : List Fixed) → Rows mode (fixed_rows t)
good_fixed mode [] = over
good_fixed mode (x ∷ t) = flat (good_fixed mode t)

good_sample : (mode : Mode) (levels : ℕ) → Good mode (sample mode levels)
unfolding samples layout_of
good_sample mode n =
    let f : Good mode (flow mode n n) = good_flow mode n n in
    let c : Good mode counter = good_framed mode 3 1 (opened (fixed_rows counters)) (opens_rows (good_fixed mode counters)) in
    good_framed mode 1 0 (opened (samples mode n)) (opens_rows (counts f (counts c (counts f (counts c (counts f over))))))

-- ---- a datagram

-- what was read is read alike where the input ends at m, which is not before it
ended_at : (sc : Script) (s : List ℕ) (m : ℕ) (p : Place) {a : Found} {q : Place} → p.at ≤ q.at → q.at ≤ m → m ≤ length s → follow sc s p ≡ got a q → follow sc (take m s) p ≡ got a q
ended_at sc s m p {a} {q} h i j e =
    let n = length-take-le m s j in
    longer sc (take m s) q.at p (omega (arith, n)) h (ap (λ (u : List ℕ). follow sc u p) (take-take q.at m s i) ∙ ended sc s p (omega arith) e)

good_datagram : (mode : Mode) (levels : ℕ) → Good mode (datagram_to mode levels)
unfolding datagram_to follow layout_of
good_datagram mode levels s t p a q b =
    let c = fields_goes header _ (here_goes _ b) in
    let n = last_number c.value in
    let d = repeat_goes n (sample mode levels) _ c.rest in
    let e = alone_first header s p c.first in
    let l = onward (alone header) s p b.fits e in
    let k = times_onward n (sample mode levels) s c.next d.first.fits d.first.reads in
    let m = p.at + (d.next.at - p.at) in
    let x : m ≤ length s = omega (arith, l.0, k.0, k.1) in
    let y : m ≤ length t = omega (arith, l.0, k.0, d.first.room) in
    let z : c.next.at ≤ m = omega (arith, l.0, k.0) in
    ranges_are d.rest.reads
    (also
    (record {
      in_s = x;
      in_t = y;
      same =
          both_anew (alone header) (take m s) (take m t) p (rw (length-take-le m s x) (omega arith)) (rw (length-take-le m t y) (omega arith))
          (ended_at (alone header) s m p l.0 z x e) (ended_at (alone header) t m p l.0 z y (alone_first header t p c.again));
    })
    (good_times mode (sample mode levels) (good_sample mode levels) n s t c.next d.all d.next d.first)
    none)

-- ---- field reading

-- of a range, whatever kind and format is asked for, it gives the same of s and t
abbrev pub ReadAlike : Mode → (s t : List ℕ) → Range → Type 0
ReadAlike mode s t r = (ak af : ℕ) → read mode ak af t r.kind r.format r.span.start r.span.count ≡ read mode ak af s r.kind r.format r.span.start r.span.count

read_alike : (mode : Mode) (s t : List ℕ) (r : Range) → length s ≤ longest_input → length t ≤ longest_input → SameFields mode s t r → ReadAlike mode s t r
unfolding read reading
read_alike mode s t r h k f ak af =
    let x = r.span.start + r.span.count in
    rw (le-leb (length s) longest_input h, le-leb (length t) longest_input k, le-leb x (length s) f.in_s, le-leb x (length t) f.in_t)
    (asked (eqb r.kind ak) (eqb r.format af) (eqb-true r.kind ak) (eqb-true r.format af))
  where
    asked : (b c : Bool) → (b ≡ true → r.kind ≡ ak) → (c ≡ true → r.format ≡ af)
        → answered (cond (b & c) (reading (layout_of mode ak af) (up_to t r) (from r.span.start)) (unread (layout_of mode ak af) 11))
        ≡ answered (cond (b & c) (reading (layout_of mode ak af) (up_to s r) (from r.span.start)) (unread (layout_of mode ak af) 11))
    asked true true i j = ap (λ (o : Out Found). answered (valued (layout_of mode ak af) o)) (rw (i refl, j refl) at f.same)
    asked true false i j = refl
    asked false c i j = refl

-- of each descriptor of an accepted input
pub pads_free_fields : (mode : Mode) (s t w : List ℕ) {f : Found} {bytes items : ℕ} (r : Allowed mode 0 s f bytes items) → (one mode s w).code ≡ 0 → length t ≤ longest_input → SameButPads mode r t
    → (i : ℕ) → i < (one mode s w).needed → ReadAlike mode s t (range (one mode s w).store i)
pads_free_fields mode s t w {f} {bytes} {items} r z k b i h =
    let a = accepted_reads (one_reads mode) s w z in
    let e = good_datagram mode r.reading.levels s t (from 0) f (place bytes items) (reading_alike r b) in
    let g = f.ranges in
    let u = reading_answers (one_reads mode) s w a.short r (subst (λ (x : Found). size x.ranges ≤ room w) (one_whole (one_reads mode) s a.reading r).0 a.fits) in
    let m = stands_in g 0 nobody i (drop (descriptor_words * size g) w) (rw u.0.needed at h) in
    subst (λ (l : List ℕ). ReadAlike mode s t (range l i)) (sym u.0.store) (subst (ReadAlike mode s t) (range_is _ i) (read_alike mode s t _ a.short k (each_of e m.1)))
