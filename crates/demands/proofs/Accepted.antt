-- One datagram: the cursor gives just the readings of the grammar that have no record deeper than 8, of which an input has one, and just its faults.
-- So `decode` is a call that `Itemised` speaks of. Assumes nothing.
use Prim.Native.Nat.{ℕ, ◌+◌}
use mathlib.Core.Path.{◌≡◌, refl, sym, ap, ◌∙◌, subst}
use mathlib.Core.List.{List}
use native.Mathlib.Omega.{arith}
use native.Mathlib.Nat.{zero-add}
use lib.ListN.{length-append}
use Rattle.reading.specs.Script.{Found}
use Rattle.reading.specs.Cursor.{Place, Out, got, stop, follow}
use Rattle.reading.specs.Layout.{Mode, datagram_to, datagram}
use Rattle.reading.specs.Sizes.{depth_limit}
use Rattle.reading.specs.Answer.{limited, from, header_of, Answer, refused, stored, one}
use Rattle.reading.proofs.Stands.{place}
use Rattle.reading.proofs.Complete.{complete}
use Rattle.reading.proofs.Exactly.{accepted_is_read}
use Rattle.reading.proofs.Codes.{sure_datagram}
use Rattle.demands.specs.Readings.{Reading}
use Rattle.demands.specs.Depths.{Shallow}
use Rattle.demands.specs.Stops.{Stops}
use Rattle.demands.specs.Itemised.{a_datagram}
use Rattle.demands.proofs.Quarter.{one_size}
use Rattle.demands.proofs.Depths.{deeper}
use Rattle.demands.proofs.Limit.{no_deeper, same_reading}
use Rattle.demands.proofs.Stopped.{stopped}
use Rattle.demands.proofs.Halting.{halting}
use Rattle.demands.proofs.Itemised.{shown, Says, read, stopped as halts, Reads}

-- with so many levels, the cursor gives a reading that is no deeper
pub given : (mode : Mode) (m : ℕ) (s : List ℕ) {f : Found} {n k : ℕ} → Reading mode 0 s f n k → Shallow m f.ranges → follow (datagram_to mode m) s (place 0 0) ≡ got f (place n k)
given mode m s {f} {n} {k} r z =
    let b = r.begins in
    complete (datagram_to mode m) s b.read b.rest f 0 0 k (same_reading mode r.levels m 0 b.read f k b.is z) (record { there = b.joined; fits = rw (b.joined, length-append) (omega arith) })
    ∙ ap (λ (i : ℕ). got f (place i (0 + k))) (zero-add _ ∙ b.long) ∙ ap (λ (i : ℕ). got f (place n i)) (zero-add k)

-- no input has two readings, however deep
pub one_reading : (mode : Mode) (s : List ℕ) {f g : Found} {n m k l : ℕ} → Reading mode 0 s f n k → Reading mode 0 s g m l → (f ≡ g) × (n ≡ m) × (k ≡ l)
one_reading mode s {f} {g} {n} {m} {k} {l} a b =
    let d = a.levels + b.levels in
    let x = given mode d s a (deeper d (omega arith) (no_deeper mode a.levels 0 a.begins.read f k a.begins.is)) in
    let y = given mode d s b (deeper d (omega arith) (no_deeper mode b.levels 0 b.begins.read g l b.begins.is)) in
    let e : got f (place n k) ≡ got g (place m l) = sym x ∙ y in
    let p : place n k ≡ place m l = cc in
    (cc, ap (λ (q : Place). q.at) p, ap (λ (q : Place). q.steps) p)

-- where the cursor stops there is a fault, and where there is a fault it stops
stops_there : (mode : Mode) (s : List ℕ) (c i n : ℕ) → Stops (datagram mode) 0 s c i n → follow (datagram mode) s (from 0) ≡ stop c i n
stops_there mode s c i n t = halting t s 0 (record { there = refl; fits = omega arith }) ∙ ap (λ (k : ℕ). stop c i k) (zero-add n)

says : (mode : Mode) (s : List ℕ) (o : Out Found) → follow (datagram mode) s (from 0) ≡ o → Says (a_datagram mode) s o
says mode s (got a q) e =
    let r = accepted_is_read mode s a q.at q.steps e in
    read (record {
      reading = record { levels = depth_limit; begins = record { read = r.read; rest = r.rest; joined = r.joined; long = r.long; is = r.is } };
      shallow = deeper _ (omega arith) (no_deeper mode depth_limit 0 r.read a q.steps r.is);
    })
says mode s (stop c i n) e =
    let r = stopped (datagram mode) s (from 0) c i n (omega arith) e in
    halts (subst (λ (k : ℕ). Stops (datagram mode) 0 s c i k) (sym (r.steps ∙ zero-add r.items)) r.stops)

pub one_reads : (mode : Mode) → Reads (a_datagram mode) (one mode)
unfolding shown stored one
one_reads mode = record {
  outcome = λ s. follow (datagram mode) s (from 0);
  says = λ s. says mode s (follow (datagram mode) s (from 0)) refl;
  is_read = λ s f end n a. given mode depth_limit s a.reading a.shallow;
  is_stopped = stops_there mode;
  sure = λ s. sure_datagram mode s (from 0);
  small = λ s f end n a. one_size mode s f (place end n) (given mode depth_limit s a.reading a.shallow);
  answer = λ s w. ap (λ (a : Answer). limited s a (refused 1 0 0 0 w)) (same w (follow (datagram mode) s (from 0)));
}
  where
    same : (w : List ℕ) (o : Out Found) → stored header_of o w ≡ shown (a_datagram mode) o w
    same w (got a q) = refl
    same w (stop c i n) = refl
