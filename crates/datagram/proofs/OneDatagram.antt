-- One datagram, taken apart: its header, its samples, and its own range around them. Assumes nothing.
use Rattle.std.proofs.Common.{ℕ, ◌+◌, ◌*◌, ◌-◌, ◌/◌, ◌≡◌, ◌≤◌, refl, sym, ap, ◌∙◌, List, length, arith, Fits, w32}
use mathlib.Core.Path.{subst}
use native.Mathlib.Nat.{add-zero}
use Rattle.reading.specs.Script.{Value, Range, Forest, bare, tree, Found}
use Rattle.reading.specs.Cursor.{Out, got, stop, then, times, follow}
use Rattle.reading.specs.Layout.{Mode, base as base_mode, last_number, ranged, between, sample, header, datagram}
use Rattle.reading.specs.Answer.{size, row_of, rows, from, nobody}
use Rattle.reading.specs.Sizes.{descriptor_words, depth_limit}
use Rattle.reading.proofs.Room.{whole, datagram_is, header_on}
use Rattle.reading.proofs.Fields.{fields_out}
use Rattle.reading.proofs.Counts.{counted}
use Rattle.reading.proofs.Steps.{Alike, steady_times}
use Rattle.reading.proofs.Stored.{write, write_length}
use Rattle.reading.proofs.Places.{Accepted, accepted, ranges_of, end_of, stopped, alike_accepted, alike_ranges, alike_end}
use Rattle.reading.proofs.Forward.{forward_times}
use Rattle.xdr.specs.declared.Cursor.{Cursor}
use Rattle.xdr.specs.Shown.{place}
use Rattle.layout.specs.Scanned.{Scan}
use Rattle.layout.proofs.Scan.{scan_row}
use Rattle.store.specs.Written.{index, Ready, a_pen, held_by, placed}
use Rattle.store.proofs.Placing.{a_put, at_is, word_is, store_is, put_kept, own_last}
use Rattle.datagram.specs.Shown.{root}

module _ (mode : Mode) (s : List ℕ) (c : Cursor) where
  pub not_begun : {x a n : ℕ} → fields_out header s (place c) ≡ stop x a n → follow (datagram mode) s (place c) ≡ stop x a n
  not_begun e = datagram_is mode depth_limit s (place c) ∙ ap (λ (o : Out (List Value)). then o (λ vs q. then (times (last_number vs) (follow (sample mode depth_limit)) s q) (λ r e. got (whole c.at vs r e) e))) e

  pub begun : {vs : List Value} (d : Cursor) → fields_out header s (place c) ≡ got vs (place d) → follow (datagram mode) s (place c) ≡ then (times (last_number vs) (follow (sample mode depth_limit)) s (place d)) (λ r e. got (whole c.at vs r e) e)
  begun d e = datagram_is mode depth_limit s (place c) ∙ ap (λ (o : Out (List Value)). then o (λ vs q. then (times (last_number vs) (follow (sample mode depth_limit)) s q) (λ r e. got (whole c.at vs r e) e))) e

-- ---- the first pass
module _ (mode : Mode) (s : List ℕ) (c : Cursor) (k : ℕ) where
  pub header_stop : {x a n : ℕ} → stop x a n ≡ fields_out header s (place c) → stop x a n ≡ counted k (follow (datagram mode) s (place c))
  unfolding counted
  header_stop e = sym (ap (counted k) (not_begun mode s c (sym e)))

  module _ {vs : List Value} {d : Cursor} (e : got vs (place d) ≡ fields_out header s (place c)) where
    -- the samples begin inside, and the datagram's own descriptor can be counted
    pub header_scan : Scan s c k → Scan s d (k + 1)
    header_scan g =
        let i = scan_row header s c k g (sym e) in
        let f = header_on s (place c) g.inside (sym e) in
        record { inside = i.inside; counted = i.counted; few = omega (arith, g.few, f.0); short = g.short }

    pub header_held : {o : Out ℕ} → o ≡ counted (k + 1) (times (last_number vs) (follow (sample mode depth_limit)) s (place d)) → o ≡ counted k (follow (datagram mode) s (place c))
    unfolding counted size
    header_held i = i ∙ more (times (last_number vs) (follow (sample mode depth_limit)) s (place d)) ∙ sym (ap (counted k) (begun mode s c d (sym e)))
      where
        more : (o : Out Found) → counted (k + 1) o ≡ counted k (then o (λ r i. got (whole c.at vs r i) i))
        more (got r i) =
            let z : k + 1 + size r.ranges ≡ k + (1 + size r.ranges + 0) = omega arith in
            ap (λ (n : ℕ). got n i) z
        more (stop x a n) = refl

-- ---- the second pass
abbrev pub start_of : ℕ → Cursor
start_of at = record { at = at; steps = 0 }

module _ (s l : List ℕ) (at base : ℕ) (g : Ready s l (root base) (follow (datagram base_mode) s (from at))) (f : at ≤ length s) where
  -- its header was passed
  pub header_there : {x a n : ℕ} {A : Type 0} → stop x a n ≡ fields_out header s (from at) → A
  header_there e = absurd (stopped (subst Accepted (not_begun base_mode s (start_of at) (sym e)) g.good))

  module _ (vs : List Value) {d : Cursor} (e : got vs (place d) ≡ fields_out header s (from at)) where
    abbrev n : ℕ
    n = last_number vs

    is : follow (datagram base_mode) s (from at) ≡ then (times n (follow (sample base_mode depth_limit)) s (place d)) (λ r i. got (whole at vs r i) i)
    is = begun base_mode s (start_of at) d (sym e)

    ahead : (at ≤ d.at) × (d.at ≤ length s)
    ahead = let y = header_on s (from at) f (sym e) in (omega (arith, y.0), y.1)

    alike : Alike (times n (follow (sample base_mode depth_limit)) s (place d)) (times n (follow (sample base_mode depth_limit)) s (from d.at))
    alike = steady_times (sample base_mode depth_limit) s n (place d) (from d.at) refl

    lies : (o u : Out Found) → Alike o u → Accepted (then o (λ r i. got (whole at vs r i) i))
        → Accepted u × (ranges_of (then o (λ r i. got (whole at vs r i) i)) ≡ ranged 0 0 0 at (between at (end_of u)) (ranges_of u)) × (end_of (then o (λ r i. got (whole at vs r i) i)) ≡ end_of u)
    unfolding ranges_of end_of
    lies (got a q) u k y =
        let z : q.at ≡ end_of u = alike_end k accepted in
        let v : a.ranges ≡ ranges_of u = alike_ranges k in
        (alike_accepted k accepted, rw (z, v), z)
    lies (stop c a n) u k y = absurd (stopped y)

    laid : Accepted (times n (follow (sample base_mode depth_limit)) s (from d.at))
        × (ranges_of (follow (datagram base_mode) s (from at)) ≡ ranged 0 0 0 at (between at (end_of (times n (follow (sample base_mode depth_limit)) s (from d.at)))) (ranges_of (times n (follow (sample base_mode depth_limit)) s (from d.at))))
        × (end_of (follow (datagram base_mode) s (from at)) ≡ end_of (times n (follow (sample base_mode depth_limit)) s (from d.at)))
    laid =
        let y = lies _ _ alike (subst Accepted is g.good) in
        (y.0, ap ranges_of is ∙ y.1, ap end_of is ∙ y.2)

    sizes : size (ranges_of (follow (datagram base_mode) s (from at))) ≡ 1 + size (ranges_of (times n (follow (sample base_mode depth_limit)) s (from d.at)))
    unfolding size
    sizes = ap size laid.1 ∙ add-zero _

    pub samples_ready : Ready s l (a_pen base base descriptor_words) (times n (follow (sample base_mode depth_limit)) s (from d.at))
    samples_ready =
        let k = sizes in
        record { short = g.short; good = laid.0; room = omega (arith, g.room); few = omega (arith, g.few) }

    pub start32 : Fits w32 at
    start32 = record { fits = omega (arith, f, g.short) }

    module _ {a b : ℕ} {l' : List ℕ} (i : a_put a b l' ≡ placed (a_pen base base descriptor_words) (times n (follow (sample base_mode depth_limit)) s (from d.at)) l) where
      end_in : (d.at ≤ a) × (a ≤ length s)
      end_in =
          let y = forward_times (sample base_mode depth_limit) n s d.at ahead.1 laid.0 in
          let k = at_is (a_pen base base descriptor_words) _ l i in
          (omega (arith, y.0), omega (arith, y.1))

      pub end_forward : at ≤ a
      end_forward = omega (arith, end_in.0, ahead.0)

      pub length32 : Fits w32 (a - at)
      length32 = record { fits = omega (arith, end_in.1, g.short) }

      pub own_room : 0 + descriptor_words ≤ length l'
      own_room = let k = sizes in omega (arith, g.room, put_kept (a_pen base base descriptor_words) _ l i)

      abbrev own_range : Range
      own_range = record { kind = 0; format = 0; span = between at a; depth = 0; first = at }

      module _ {l'' : List ℕ} (q : l'' ≡ write l' 0 (row_of nobody own_range)) where
        pub datagram_kept : length l'' ≡ length l
        datagram_kept = ap length q ∙ write_length _ _ _ ∙ put_kept (a_pen base base descriptor_words) _ l i

        pub datagram_placed : a_put a b l'' ≡ placed (root base) (follow (datagram base_mode) s (from at)) l
        unfolding placed
        datagram_placed =
            let x : a ≡ end_of (times n (follow (sample base_mode depth_limit)) s (from d.at)) = at_is (a_pen base base descriptor_words) _ l i in
            let y : b ≡ descriptor_words + descriptor_words * size (ranges_of (times n (follow (sample base_mode depth_limit)) s (from d.at))) = word_is (a_pen base base descriptor_words) _ l i in
            let k : l' ≡ write l (0 + descriptor_words) (rows (index (held_by base 0)) (base + 0 / descriptor_words) (ranges_of (times n (follow (sample base_mode depth_limit)) s (from d.at)))) =
            store_is (a_pen base base descriptor_words) _ l i ∙ ap (λ (m : ℕ). write l descriptor_words (rows (base + 1) m (ranges_of (times n (follow (sample base_mode depth_limit)) s (from d.at))))) (sym (add-zero base)) in
            let t : tree own_range (ranges_of (times n (follow (sample base_mode depth_limit)) s (from d.at))) bare ≡ ranges_of (follow (datagram base_mode) s (from at)) =
            ap (λ (m : ℕ). ranged 0 0 0 at (between at m) (ranges_of (times n (follow (sample base_mode depth_limit)) s (from d.at)))) x ∙ sym laid.1 in
            let u : a ≡ end_of (follow (datagram base_mode) s (from at)) = x ∙ sym laid.2 in
            let m : b ≡ 0 + descriptor_words * size (ranges_of (follow (datagram base_mode) s (from at))) = y ∙ rw sizes (omega arith) in
            let z : l'' ≡ write l 0 (rows (base + 0 / descriptor_words) nobody (ranges_of (follow (datagram base_mode) s (from at)))) =
            own_last l base nobody 0 own_range (ranges_of (times n (follow (sample base_mode depth_limit)) s (from d.at))) k q
            ∙ ap (λ (o : Forest). write l 0 (rows (base + 0 / descriptor_words) nobody o)) t in
            λ j. record { at = u j; word = m j; store = z j }
