-- The answer to a reading: a law for each way out of `decode` and of `decode_run`, with the facts that the code has there. Assumes nothing.
use Prim.Native.Nat.{ℕ, ◌+◌, ◌*◌, ◌≤◌, ◌<◌}
use mathlib.Core.Bool.{Bool, true, false, cond}
use mathlib.Core.Path.{◌≡◌, refl, sym, ap, ◌∙◌, subst}
use mathlib.Core.List.{List, ◌++◌}
use native.Mathlib.Omega.{arith}
use borrow.Author.Tests.{leb-true, le-leb, lt-leb}
use lib.Dec.{leb}
use lib.ListN.{length, take, drop}
use lib.Seq.{length-take-le}
use Rattle.reading.specs.Script.{Value, Forest, Found}
use Rattle.reading.specs.Cursor.{Place, Out, got, stop, times, follow}
use Rattle.reading.specs.Layout.{Mode, base as base_mode, last_number, sample, header, datagram}
use Rattle.reading.specs.Answer as answer
use Rattle.reading.specs.Answer.{limited, size, rows, room, from, nobody, header_of, no_header, refused, stored, one, run}
use Rattle.reading.specs.Sizes.{descriptor_words, longest_input, depth_limit}
use Rattle.reading.proofs.Items.{never, split}
use Rattle.reading.proofs.Room.{whole, thrifty_datagram, datagram_on}
use Rattle.reading.proofs.Runs.{run_from, thrifty_run}
use Rattle.reading.proofs.Modes.{in_base}
use Rattle.reading.proofs.RunModes.{RunInBase, run_in_base}
use Rattle.reading.proofs.Counts.{counted}
use Rattle.reading.proofs.Stored.{write, write_length, write_all, rows_length}
use Rattle.reading.proofs.Places.{Accepted, accepted, ranges_of, end_of}
use Rattle.xdr.specs.declared.Cursor.{Cursor}
use Rattle.store.specs.Written.{Ready, placed}
use Rattle.store.proofs.Placing.{a_put, store_is}
use Rattle.datagram.specs.declared.decode.Answer.{Answer}
use Rattle.datagram.specs.declared.decode.Decoded.{Decoded}
use Rattle.datagram.specs.Shown.{root, decoded, header_fields, Refuses, IsRead, values_of, Accepts, ran}
use Rattle.datagram.proofs.OneDatagram.{start_of, begun, not_begun}
use Rattle.xdr.specs.Shown.{Inside, place}
use Rattle.layout.specs.Scanned.{Scan}
use Rattle.datagram.specs.declared.header.Header.{Header}
use Rattle.reading.proofs.Fields.{fields_out}

-- the answer to a reading o
abbrev answered : (List Value → answer.Header) → Out Found → (s w : List ℕ) → answer.Answer
answered head o s w = limited s (stored head o w) (refused 1 0 0 0 w)

-- a reading that was scanned whole, up to e, with k descriptors
record Whole (o : Out Found) (e : Cursor) (k : ℕ) : Type 0 where
  found : Found
  is : o ≡ got found (place e)
  count : k ≡ size found.ranges

scanned_whole : (o : Out Found) (e : Cursor) (k : ℕ) → got k (place e) ≡ counted 0 o → Whole o e k
unfolding counted
scanned_whole (got a p) e k u =
    let v : k ≡ 0 + size a.ranges = cc in
    let x : k ≡ size a.ranges = omega (arith, v) in
    let y : place e ≡ p = cc in
    record { found = a; is = ap (λ (r : Place). got a r) (sym y); count = x }
scanned_whole (stop c a n) e k u = never (sym u)

module _ (head : List Value → answer.Header) (o : Out Found) (s w : List ℕ) where
  beyond : longest_input < length s → refused 1 0 0 0 w ≡ answered head o s w
  beyond h = rw (lt-leb (length s) longest_input h)

  -- where descriptors were answered, the store has room for them
  has_room : (answered head o s w).code ≡ 0 → descriptor_words * (answered head o s w).needed ≤ length w
  unfolding stored
  has_room e = go (leb (length s) longest_input) o e
    where
      fits : (b : Bool) (a : Found) (p : Place) → leb (size a.ranges) (room w) ≡ b
          → (cond b (record { code = 0; at = p.at; steps = p.steps; needed = size a.ranges; head = head a.values; store = rows 0 nobody a.ranges ++ drop (descriptor_words * size a.ranges) w }) (refused 9 0 p.steps (size a.ranges) w)).code ≡ 0
          → descriptor_words * (cond b (record { code = 0; at = p.at; steps = p.steps; needed = size a.ranges; head = head a.values; store = rows 0 nobody a.ranges ++ drop (descriptor_words * size a.ranges) w }) (refused 9 0 p.steps (size a.ranges) w)).needed ≤ length w
      fits true a p t e = let y = leb-true (size a.ranges) (room w) t in omega arith
      fits false a p t e = absurd (omega arith)

      go : (b : Bool) (o : Out Found) → (cond b (stored head o w) (refused 1 0 0 0 w)).code ≡ 0 → descriptor_words * (cond b (stored head o w) (refused 1 0 0 0 w)).needed ≤ length w
      go false o e = omega arith
      go true (stop c a n) e = omega arith
      go true (got a p) e = fits (leb (size a.ranges) (room w)) a p refl e

  module _ (short : length s ≤ longest_input) where
    within : answered head o s w ≡ stored head o w
    within = rw (le-leb (length s) longest_input short)

    stops : {x at steps : ℕ} → stop x at steps ≡ counted 0 o → refused x at steps 0 w ≡ answered head o s w
    unfolding counted stored
    stops {x} {at} {steps} u = go o u ∙ sym within
      where
        go : (o : Out Found) → stop x at steps ≡ counted 0 o → refused x at steps 0 w ≡ stored head o w
        go (got a p) u = never u
        go (stop c a n) u =
            let i : x ≡ c = cc in
            let j : at ≡ a = cc in
            let k : steps ≡ n = cc in
            rw (i, j, k)

    module _ (e : Cursor) (k : ℕ) (t : Whole o e k) where
      lacks : room w < k → refused 9 0 e.steps k w ≡ answered head o s w
      unfolding stored
      lacks h =
          let z = lt-leb (size t.found.ranges) (room w) (rw t.count at h) in
          let y : stored head o w ≡ refused 9 0 e.steps (size t.found.ranges) w = ap (λ (u : Out Found). stored head u w) t.is ∙ rw z in
          rw t.count (sym y) ∙ sym within

      fills : k ≤ room w → k ≤ longest_input → Ready s w (root 0) o
      unfolding ranges_of
      fills h l =
          let z : size (ranges_of o) ≡ size t.found.ranges = ap (λ (u : Out Found). size (ranges_of u)) t.is in
          let x = t.count in
          record { short = short; good = subst Accepted (sym t.is) accepted; room = omega arith; few = omega arith }

      stores : {l' : List ℕ} {d : answer.Header} → k ≤ room w → l' ≡ write w 0 (rows 0 nobody (ranges_of o)) → d ≡ head t.found.values
          → record { code = 0; at = e.at; steps = e.steps; needed = k; head = d; store = l' } ≡ answered head o s w
      unfolding stored ranges_of
      stores {l'} {d} h r q =
          let fs = t.found.ranges in
          let y = le-leb (size fs) (room w) (rw t.count at h) in
          let b : length (rows 0 nobody fs) ≡ descriptor_words * size fs = rows_length 0 nobody fs in
          let m : length (rows 0 nobody fs) ≤ length w = let x = t.count in omega (arith, b) in
          let g : l' ≡ write w 0 (rows 0 nobody fs) = r ∙ ap (λ (u : Out Found). write w 0 (rows 0 nobody (ranges_of u))) t.is in
          let n : l' ≡ rows 0 nobody fs ++ drop (descriptor_words * size fs) w = g ∙ write_all w (rows 0 nobody fs) m ∙ ap (λ (i : ℕ). rows 0 nobody fs ++ drop i w) b in
          let c = t.count in
          let z : record { code = 0; at = e.at; steps = e.steps; needed = k; head = d; store = l' } ≡ stored head (got t.found (place e)) w =
          rw y (λ i. record { code = 0; at = e.at; steps = e.steps; needed = c i; head = q i; store = n i }) in
          z ∙ ap (λ (u : Out Found). stored head u w) (sym t.is) ∙ sym within

-- ---- one datagram

pub at_start : (s : List ℕ) → length s ≤ longest_input → Scan s (start_of 0) 0
at_start s h = record { inside = omega arith; counted = omega arith; few = omega arith; short = h }

pub inside_start : (s : List ℕ) → Inside s (start_of 0)
inside_start s = record { inside = omega arith; counted = omega arith }

-- its header, once it is known to be accepted
module _ (s : List ℕ) {e : Cursor} {k : ℕ} (q : IsRead s e k) where
  known : Whole (follow (datagram base_mode) s (from 0)) e k
  known = scanned_whole (follow (datagram base_mode) s (from 0)) e k q.is

  head_values : {d : Cursor} {vs : List Value} → got vs (place d) ≡ fields_out header s (from 0) → values_of (follow (datagram base_mode) s (from 0)) ≡ vs
  unfolding values_of
  head_values {d} {vs} f =
      let a = known in
      let t = split (times (last_number vs) (follow (sample base_mode depth_limit)) s (place d)) _ (sym (begun base_mode s (start_of 0) d (sym f)) ∙ a.is) in
      let g : got (whole 0 vs t.value t.place) t.place ≡ got a.found (place e) = t.second in
      let x : whole 0 vs t.value t.place ≡ a.found = cc in
      ap values_of a.is ∙ ap (λ (r : Found). r.values) (sym x)

  pub never_refused : {x a n : ℕ} {A : Type 0} → stop x a n ≡ fields_out header s (from 0) → A
  never_refused f = never (sym (not_begun base_mode s (start_of 0) (sym f)) ∙ known.is)

  pub header_known : (h : Header) {d : Cursor} → got (header_fields h) (place d) ≡ fields_out header s (from 0) → Accepts s (record {
    answer = record { code = 0; at = e.at; steps = e.steps; needed = k };
    agent_address = h.agent_address;
    sub_agent_id = h.sub_agent_id;
    sequence_number = h.sequence_number;
    uptime = h.uptime;
    num_samples = h.num_samples;
  }) e k
  unfolding header_of
  header_known h f = record { leaves = λ m. ap (λ (x : answer.Header). record { code = 0; at = e.at; steps = e.steps; needed = k; head = x; store = m }) (sym (ap header_of (head_values f))) }

module _ (mode : Mode) (s w : List ℕ) where
  pub too_long : {d : Decoded} {a : Answer} → Refuses d a → a ≡ record { code = 1; at = 0; steps = 0; needed = 0 } → longest_input < length s → decoded d w ≡ one mode s w
  unfolding one
  too_long e i h = e.leaves w ∙ rw i (beyond header_of (follow (datagram mode) s (from 0)) s w h)

  module _ (short : length s ≤ longest_input) where
    pub stays : {x at steps : ℕ} {d : Decoded} {a : Answer} → stop x at steps ≡ counted 0 (follow (datagram mode) s (from 0)) → Refuses d a → a ≡ record { code = x; at = at; steps = steps; needed = 0 } → decoded d w ≡ one mode s w
    unfolding one
    stays q e i = e.leaves w ∙ rw i (stops header_of (follow (datagram mode) s (from 0)) s w short q)

    module _ {e : Cursor} {k : ℕ} (q : got k (place e) ≡ counted 0 (follow (datagram mode) s (from 0))) where
      there : Whole (follow (datagram mode) s (from 0)) e k
      there = scanned_whole (follow (datagram mode) s (from 0)) e k q

      -- the base mode reads the same
      same : follow (datagram base_mode) s (from 0) ≡ follow (datagram mode) s (from 0)
      same = (in_base mode).is s (from 0) there.found (place e) there.is ∙ sym there.is

      pub is_read : IsRead s e k
      is_read = record { is = q ∙ ap (counted 0) (sym same) }

      pub no_room : {d : Decoded} {a : Answer} → room w < k → Refuses d a → a ≡ record { code = 9; at = 0; steps = e.steps; needed = k } → decoded d w ≡ one mode s w
      unfolding one
      no_room h f i = f.leaves w ∙ rw i (lacks header_of (follow (datagram mode) s (from 0)) s w short e k there h)

      pub all_ready : k ≤ room w → Ready s w (root 0) (follow (datagram base_mode) s (from 0))
      all_ready h =
          let t = known s is_read in
          let y = thrifty_datagram base_mode depth_limit s (from 0) t.found (place e) (omega arith) t.is in
          let f = datagram_on base_mode depth_limit s (from 0) (omega arith) t.is in
          let x = t.count in
          fills header_of (follow (datagram base_mode) s (from 0)) s w short e k t h (omega (arith, y, f.1))

      pub all_stored : {a b : ℕ} {l' : List ℕ} {d : Decoded} → k ≤ room w → a_put a b l' ≡ placed (root 0) (follow (datagram base_mode) s (from 0)) w → Accepts s d e k → decoded d l' ≡ one mode s w
      unfolding one values_of
      all_stored {l' = l'} h f g =
          let t = known s is_read in
          let d : header_of (values_of (follow (datagram base_mode) s (from 0))) ≡ header_of t.found.values = ap (λ (u : Out Found). header_of (values_of u)) t.is in
          g.leaves l' ∙ stores header_of (follow (datagram base_mode) s (from 0)) s w short e k t h (store_is (root 0) _ w f) d ∙ ap (λ (o : Out Found). answered header_of o s w) same

pub decoded_room : {l : List ℕ} (mode : Mode) (s w : List ℕ) (d : Decoded) → decoded d l ≡ one mode s w → length l ≡ length w → d.answer.code ≡ 0 → descriptor_words * d.answer.needed ≤ length l
unfolding one
decoded_room {l} mode s w d e k c =
    let x : d.answer.code ≡ (answered header_of (follow (datagram mode) s (from 0)) s w).code = ap (λ (r : answer.Answer). r.code) e in
    let y : d.answer.needed ≡ (answered header_of (follow (datagram mode) s (from 0)) s w).needed = ap (λ (r : answer.Answer). r.needed) e in
    let z = has_room header_of (follow (datagram mode) s (from 0)) s w (sym x ∙ c) in
    rw y (omega (arith, z))

-- ---- a run
module _ (mode : Mode) (s w : List ℕ) where
  pub run_too_long : longest_input < length s → refused 1 0 0 0 w ≡ run mode s w
  unfolding run run_from
  run_too_long h = beyond (λ _. no_header) (run_from mode s (from 0)) s w h

  module _ (short : length s ≤ longest_input) where
    pub run_stays : {x at steps : ℕ} → stop x at steps ≡ counted 0 (run_from mode s (from 0)) → refused x at steps 0 w ≡ run mode s w
    unfolding run run_from
    run_stays q = stops (λ _. no_header) (run_from mode s (from 0)) s w short q

    module _ {e : Cursor} {k : ℕ} (q : got k (place e) ≡ counted 0 (run_from mode s (from 0))) where
      run_there : Whole (run_from mode s (from 0)) e k
      run_there = scanned_whole (run_from mode s (from 0)) e k q

      pub run_no_room : room w < k → refused 9 0 e.steps k w ≡ run mode s w
      unfolding run run_from
      run_no_room h = lacks (λ _. no_header) (run_from mode s (from 0)) s w short e k run_there h

      pub run_inside : e.at ≤ length s
      run_inside = (thrifty_run mode s 0 (omega arith) run_there.is).1

      pub run_part : e.at ≡ length (take e.at s)
      run_part = sym (length-take-le e.at s run_inside)

      -- up to where it ended the base mode's run is the same
      up_to : RunInBase s (from 0) run_there.found (place e)
      unfolding run_from
      up_to = run_in_base mode s (length s) (from 0) (omega arith) run_there.is

      same_run : ranges_of (run_from base_mode (take e.at s) (from 0)) ≡ ranges_of (run_from mode s (from 0))
      unfolding ranges_of
      same_run = ap ranges_of up_to.is ∙ sym (ap ranges_of run_there.is)

      pub run_ready : k ≤ room w → Ready (take e.at s) w (root 0) (run_from base_mode (take e.at s) (from 0))
      run_ready h =
          let t = run_there in
          let y = thrifty_run mode s 0 (omega arith) t.is in
          let x = t.count in
          let l = length-take-le e.at s run_inside in
          fills (λ _. no_header) (run_from base_mode (take e.at s) (from 0)) (take e.at s) w (omega (arith, l, short, y.1)) (record { at = e.at; steps = up_to.steps }) k
          (record { found = t.found; is = up_to.is; count = t.count }) h (omega (arith, y.0, y.1, x, short))

      pub run_end : length (take e.at s) ≡ end_of (run_from base_mode (take e.at s) (from 0))
      unfolding end_of
      run_end = length-take-le e.at s run_inside ∙ sym (ap end_of up_to.is)

      pub run_stored : {l' : List ℕ} → k ≤ room w → l' ≡ write w 0 (rows 0 nobody (ranges_of (run_from base_mode (take e.at s) (from 0))))
          → record { code = 0; at = e.at; steps = e.steps; needed = k; head = no_header; store = l' } ≡ run mode s w
      unfolding run run_from
      run_stored h f = stores (λ _. no_header) (run_from mode s (from 0)) s w short e k run_there h (f ∙ ap (λ (r : Forest). write w 0 (rows 0 nobody r)) same_run) refl

-- the store keeps its length
pub run_kept : {l' : List ℕ} (w ws : List ℕ) → l' ≡ write w 0 ws → length l' ≡ length w
run_kept w ws e = ap length e ∙ write_length w 0 ws

pub ran_room : {l : List ℕ} (mode : Mode) (s w : List ℕ) (d : Answer) → ran d l ≡ run mode s w → length l ≡ length w → d.code ≡ 0 → descriptor_words * d.needed ≤ length l
unfolding run run_from
ran_room {l} mode s w d e k c =
    let x : d.code ≡ (answered (λ _. no_header) (run_from mode s (from 0)) s w).code = ap (λ (r : answer.Answer). r.code) e in
    let y : d.needed ≡ (answered (λ _. no_header) (run_from mode s (from 0)) s w).needed = ap (λ (r : answer.Answer). r.needed) e in
    let z = has_room (λ _. no_header) (run_from mode s (from 0)) s w (sym x ∙ c) in
    rw y (omega (arith, z))
