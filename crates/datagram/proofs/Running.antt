-- A run of datagrams: a law for each need of its two passes, with the facts that the code has there. Assumes nothing.
use Prim.Native.Nat.{ℕ, ◌+◌, ◌*◌, ◌-◌, ◌/◌, ◌^◌, ◌≤◌, ◌<◌}
use mathlib.Core.Path.{◌≡◌, refl, sym, ap, ◌∙◌}
use mathlib.Core.List.{List, ◌++◌}
use native.Mathlib.Omega.{arith}
use lib.ListN.{length, take, drop, length-drop}
use mir.Syntax.{w64}
use mir.Val.{Fits}
use Rattle.reading.specs.Script.{Forest, Found}
use Rattle.reading.specs.Cursor.{Place, Out, got, stop, follow}
use Rattle.reading.specs.Layout.{Mode, base as base_mode, datagram}
use Rattle.reading.specs.Answer.{size, rows, from, nobody}
use Rattle.reading.specs.Sizes.{depth_limit, descriptor_words}
use Rattle.reading.proofs.Items.{never}
use Rattle.reading.proofs.Room.{thrifty_datagram, datagram_on}
use Rattle.reading.proofs.Runs.{run_from, run_over, run_got, run_ends, run_stops}
use Rattle.reading.proofs.RunAt.{RunAt, run_lies, run_bare}
use Rattle.reading.proofs.Counts.{counted, size_joined}
use Rattle.reading.proofs.Stored.{write, write_length, write_none, write_rest, rest, rest_is}
use Rattle.reading.proofs.Places.{ranges_of, end_of, given}
use Rattle.reading.proofs.Forward.{forward}
use Rattle.xdr.specs.declared.Cursor.{Cursor}
use Rattle.xdr.specs.declared.Reason.{Reason}
use Rattle.xdr.specs.declared.Reason.TheVariants.{InputTooLong, Cut, Version, AddressType, OpaqueTooLong, HeaderProtocol, IllFormed, TooDeep, NoRoom, OutsideInput, OtherFormat}
use Rattle.xdr.specs.Shown.{code_of, place}
use Rattle.store.specs.declared.Written.{Written}
use Rattle.layout.specs.Scanned.{Scan}
use Rattle.store.specs.Written.{Ready, Put, written, placed}
use Rattle.layout.proofs.Scan.{scan_on}
use Rattle.store.proofs.Placing.{a_put, two_placed, at_is, word_is, store_is, put_kept}
use Rattle.datagram.specs.Shown.{root, pen_at}

-- ---- the first pass
module _ (mode : Mode) (s : List ℕ) (c : Cursor) (k : ℕ) where
  module _ {d : Cursor} {m : ℕ} (e : got m (place d) ≡ counted k (follow (datagram mode) s (place c))) where
    pub scanned_on : Scan s c k → Scan s d m
    scanned_on g = scan_on (datagram mode) (record { is = thrifty_datagram mode depth_limit }) s c k g e

    pub scanned_less : Scan s c k → c.at < length s → length s - d.at < length s - c.at
    unfolding counted
    scanned_less g h = go (follow (datagram mode) s (place c)) refl e
      where
        go : (o : Out Found) → follow (datagram mode) s (place c) ≡ o → got m (place d) ≡ counted k o → length s - d.at < length s - c.at
        go (got a q) f u =
            let x : place d ≡ q = cc in
            let y = ap (λ (r : Place). r.at) x in
            let z = datagram_on mode depth_limit s (place c) g.inside f in
            omega (arith, z.0, y, h)
        go (stop x a n) f u = never (sym u)

    pub scanned_turn : {t : Out ℕ} → counted k (run_from mode s (place c)) ≡ t → c.at < length s → counted m (run_from mode s (place d)) ≡ t
    scanned_turn f h = sym (run_got mode s (place c) k h (sym e)) ∙ f

  module _ {x at steps : ℕ} (w : stop x at steps ≡ counted k (follow (datagram mode) s (place c))) {t : Out ℕ} (e : counted k (run_from mode s (place c)) ≡ t) (h : c.at < length s) where
    pub scanned_ends : x ≡ 2 → got k (record { at = c.at; steps = steps }) ≡ t
    scanned_ends z = sym (run_ends mode s (place c) k h (sym w) z) ∙ e

    pub scanned_stops : (x ≡ 2 → ⊥) → stop x at steps ≡ t
    scanned_stops z = sym (run_stops mode s (place c) k h (sym w) z) ∙ e

pub scanned_over : {t : Out ℕ} (mode : Mode) (s : List ℕ) (c : Cursor) (k : ℕ) → counted k (run_from mode s (place c)) ≡ t → length s ≤ c.at → got k (place c) ≡ t
unfolding counted size
scanned_over mode s c k e h =
    let z : counted k (run_from mode s (place c)) ≡ got (k + 0) (place c) = ap (counted k) (run_over mode s (place c) h) in
    let y : k ≡ k + 0 = omega arith in
    ap (λ (n : ℕ). got n (place c)) y ∙ sym z ∙ e

-- ---- the second pass: one datagram, from a word on
module _ (s l : List ℕ) (at w : ℕ) (g : Ready s l (pen_at w) (follow (datagram base_mode) s (from at))) where
  pub part_start : w ≤ length l
  part_start = omega (arith, g.room)

  pub part_index : 0 + w / descriptor_words < 2 ^ 32
  part_index = omega (arith, g.few)

  module _ {i : ℕ} (u : i ≡ 0 + w / descriptor_words) where
    pub part_ready : Ready s (take (length l - w) (drop w l)) (root i) (follow (datagram base_mode) s (from at))
    part_ready =
        let m : length (rest l w) ≡ length l - w = ap length (rest_is l w) ∙ length-drop w l in
        record { short = g.short; good = g.good; room = omega (arith, g.room, m); few = omega (arith, g.few) }

    module _ {v : Written} {l' : List ℕ} (e : written v l' ≡ placed (root i) (follow (datagram base_mode) s (from at)) (take (length l - w) (drop w l))) where
      more : v.word ≡ 0 + descriptor_words * size (ranges_of (follow (datagram base_mode) s (from at)))
      more = word_is (root i) _ _ e

      pub part_more : Fits w64 (w + v.word)
      part_more = let y = more in record { fits = omega (arith, g.few) }

      module _ {l'' : List ℕ} (q : l'' ≡ take w l ++ (l' ++ drop (length l - w) (drop w l))) where
        joined : l'' ≡ write l w (rows (0 + w / descriptor_words) nobody (ranges_of (follow (datagram base_mode) s (from at))))
        joined =
            let x : i + 0 / descriptor_words ≡ 0 + w / descriptor_words = omega arith in
            let y : l' ≡ write (rest l w) 0 (rows (0 + w / descriptor_words) nobody (ranges_of (follow (datagram base_mode) s (from at)))) =
            store_is (root i) _ _ e ∙ ap (λ (m : ℕ). write (rest l w) 0 (rows m nobody (ranges_of (follow (datagram base_mode) s (from at))))) x in
            q ∙ ap (λ (x : List ℕ). take w l ++ (x ++ drop (length l - w) (drop w l))) y ∙ write_rest l w (rows (0 + w / descriptor_words) nobody (ranges_of (follow (datagram base_mode) s (from at)))) part_start

        pub part_kept : length l'' ≡ length l
        part_kept = ap length joined ∙ write_length _ _ _

        pub part_placed : a_put v.at (w + v.word) l'' ≡ placed (pen_at w) (follow (datagram base_mode) s (from at)) l
        unfolding placed
        part_placed =
            let a = at_is (root i) _ _ e in
            let b : w + v.word ≡ w + descriptor_words * size (ranges_of (follow (datagram base_mode) s (from at))) = let y = more in omega arith in
            let c = joined in
            λ j. record { at = a j; word = b j; store = c j }

-- ---- all of them
module _ (s l : List ℕ) (cur end w : ℕ) (g : Ready s l (pen_at w) (run_from base_mode s (from cur))) (i : cur ≤ length s) (z : end ≡ end_of (run_from base_mode s (from cur))) where
  pub run_all : (m : List ℕ) → end ≤ cur → placed (pen_at w) (run_from base_mode s (from cur)) l ≡ placed (pen_at 0) (run_from base_mode s (from 0)) m → l ≡ write m 0 (rows 0 nobody (ranges_of (run_from base_mode s (from 0))))
  unfolding placed rows
  run_all m h e =
      let y = run_bare base_mode s cur i g.good (omega (arith, z)) in
      sym (write_none l (w)) ∙ ap (λ (f : Forest). write l (w) (rows (0 + w / descriptor_words) nobody f)) (sym y) ∙ ap (λ (p : Put). p.store) e

  module _ (h : cur < end) where
    parts : RunAt base_mode s cur
    parts = run_lies base_mode s cur i g.good (omega (arith, z))

    sizes : size (ranges_of (run_from base_mode s (from cur))) ≡ size (ranges_of (follow (datagram base_mode) s (from cur))) + size (ranges_of (run_from base_mode s (from (end_of (follow (datagram base_mode) s (from cur))))))
    sizes = ap size parts.ranges ∙ size_joined _ _

    pub first_ready : Ready s l (pen_at w) (follow (datagram base_mode) s (from cur))
    first_ready =
        let k = sizes in
        record { short = g.short; good = parts.first; room = omega (arith, g.room); few = omega (arith, g.few) }

    module _ {v : Written} {l' : List ℕ} (e : written v l' ≡ placed (pen_at w) (follow (datagram base_mode) s (from cur)) l) where
      here : v.at ≡ end_of (follow (datagram base_mode) s (from cur))
      here = at_is (pen_at w) _ l e

      next : v.word ≡ w + descriptor_words * size (ranges_of (follow (datagram base_mode) s (from cur)))
      next = word_is (pen_at w) _ l e

      pub next_less : end - v.at < end - cur
      unfolding end_of
      next_less =
          let a = given (follow (datagram base_mode) s (from cur)) parts.first in
          let b = datagram_on base_mode depth_limit s (from cur) i a.is in
          let c : v.at ≡ a.last.at = here ∙ ap end_of a.is in
          omega (arith, b.0, c, h)

      pub next_inside : v.at ≤ length s
      next_inside = let f = forward (datagram base_mode) s cur i parts.first in let y = here in omega (arith, f.1, y)

      pub next_end : end ≡ end_of (run_from base_mode s (from v.at))
      next_end = z ∙ parts.end ∙ ap (λ (m : ℕ). end_of (run_from base_mode s (from m))) (sym here)

      pub next_ready : Ready s l' (pen_at v.word) (run_from base_mode s (from v.at))
      next_ready =
          let k = sizes in
          let y = next in
          let x = put_kept (pen_at w) _ l e in
          rw here (record { short = g.short; good = parts.rest; room = omega (arith, g.room); few = omega (arith, g.few) })

      pub next_placed : {t : Put} → placed (pen_at w) (run_from base_mode s (from cur)) l ≡ t → placed (pen_at v.word) (run_from base_mode s (from v.at)) l' ≡ t
      unfolding placed
      next_placed {t} u = rw here (two_placed 0 nobody w l (ranges_of (follow (datagram base_mode) s (from cur))) (ranges_of (run_from base_mode s (from (end_of (follow (datagram base_mode) s (from cur)))))) refl parts.end parts.ranges next (store_is (pen_at w) _ l e)) ∙ u

-- only a cut has code 2
pub other_code : (r : Reason) → (r ≡ Cut → ⊥) → code_of r ≡ 2 → ⊥
other_code Cut n e = n refl
other_code InputTooLong n e = absurd (omega arith)
other_code Version n e = absurd (omega arith)
other_code AddressType n e = absurd (omega arith)
other_code OpaqueTooLong n e = absurd (omega arith)
other_code HeaderProtocol n e = absurd (omega arith)
other_code IllFormed n e = absurd (omega arith)
other_code TooDeep n e = absurd (omega arith)
other_code NoRoom n e = absurd (omega arith)
other_code OutsideInput n e = absurd (omega arith)
other_code OtherFormat n e = absurd (omega arith)
