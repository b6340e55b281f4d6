-- Records passed ahead of the full reading: a law for each way out of its functions. Assumes nothing.
use Rattle.std.proofs.Common.{ℕ, ◌+◌, ◌-◌, ◌≡◌, ◌≤◌, ◌<◌, sym, ap, ◌∙◌, List, [], ◌∷◌, ◌++◌, length, take, arith, le-leb, Ok, Err, IfSome}
use Rattle.std.specs.Result.{result_ok}
use Rattle.reading.specs.Sizes.{longest_input, longest_opaque, depth_limit}
use Rattle.reading.specs.Bytes.{be4, padded}
use Rattle.reading.specs.Script.{nothing, opaque, Script}
use Rattle.reading.specs.Cursor.{got, fixed, read_item, read_opaque, times, follow}
use Rattle.reading.specs.Layout.{Mode, any_word, memo, flows, flow, plain, protocol, words}
use Rattle.reading.specs.Answer.{layout_of}
use Rattle.reading.proofs.Counts.{frame_at}
use Rattle.reading.proofs.Fields.{field_out, fields_out}
use Rattle.xdr.specs.declared.Cursor.{Cursor}
use Rattle.xdr.specs.Shown.{Inside, Passed, passed_out, place, resumed}
use Rattle.layout.specs.declared.frames.Frame.{Frame}
use Rattle.layout.specs.Passing.{passing}
use Rattle.layout.specs.Shown.{a_frame, first_of}
use Rattle.layout.proofs.Passing.{passed_words, passing_is}
use Rattle.layout.proofs.Protocols.{in_table}
use Rattle.layout.proofs.Scan.{frame_scan, scan_inside, scan_on, scan_turn}
use Rattle.flow_layouts.proofs.Formats.{flow_opened}
use Rattle.flows.specs.Passing.{Passes, PassesRecord, AheadOf}
use Rattle.flows.proofs.Scanning.{data_got, flow_thrift, record_got}

-- a payload, by its layout
pub passes : (f : ℕ) (s : List ℕ) (c d : Cursor) → (f ≡ 1016 → ⊥) → ((mode : Mode) → got nothing (place d) ≡ passing (layout_of mode 2 f) s (place c)) → Passes s c f d
passes f s c d n e = record {
  flat = n;
  is = λ mode. e mode ∙ sym (passing_is (layout_of mode 2 f) s (place c)) ∙ ap (λ (x : Script). follow x s (place c)) (sym (flow_opened mode f n));
}

-- four words
pub words_passed : (s : List ℕ) (c : Cursor) (p : Passed) → Inside s c → passed_out p nothing ≡ times 4 (follow any_word) s (place c) → IfSome (result_ok p) (Passes s c 1001)
unfolding layout_of flows
words_passed s c (Ok d) i e = passes 1001 s c d (λ z. absurd (omega arith)) (λ mode. passed_words 4 s c (Ok d) i e)
words_passed s c (Err x) i e = tt

-- format 1, by one look at its words
module _ (s : List ℕ) (c : Cursor) (h : 16 ≤ length s - c.at) (a : 1 ≤ be4 s c.at) (b : be4 s c.at ≤ 17) (l : length s ≤ longest_input) where
  row : (n : ℕ) → be4 s (c.at + 4 + 4 + 4) ≡ n → padded n ≤ length s - c.at - 16
      → passing (protocol ∷ words 2 ++ plain opaque ∷ []) s (place c) ≡ got nothing (record { at = c.at + 4 + 4 + 4 + (4 + padded n); steps = c.steps + 1 + 1 + 1 + 1 })
  unfolding fields_out field_out read_item read_opaque fixed
  row n e i = simp (le-leb (c.at + 4) (length s) (omega arith), in_table (be4 s c.at) a b, le-leb (c.at + 4 + 4) (length s) (omega arith), le-leb (c.at + 4 + 4 + 4) (length s) (omega arith), e, le-leb (c.at + 4 + 4 + 4 + 4) (length s) (omega arith), le-leb n longest_opaque (omega arith), le-leb (c.at + 4 + 4 + 4 + (4 + padded n)) (length s) (omega arith))

  pub sampled : padded (be4 s (c.at + 12)) ≤ length s - c.at - 16 → Passes s c 1 (record { at = c.at + 16 + padded (be4 s (c.at + 12)); steps = c.steps + 4 })
  unfolding layout_of flows
  sampled i =
      let z : c.at + 4 + 4 + 4 ≡ c.at + 12 = omega arith in
      let m : c.at + 4 + 4 + 4 + (4 + padded (be4 s (c.at + 12))) ≡ c.at + 16 + padded (be4 s (c.at + 12)) = omega arith in
      let q : c.steps + 1 + 1 + 1 + 1 ≡ c.steps + 4 = omega arith in
      passes 1 s c _ (λ y. absurd (omega arith)) (λ mode. rw (← m, ← q) (sym (row (be4 s (c.at + 12)) (ap (be4 s) z) i)))

-- ---- a record, by its frame
module _ (s : List ℕ) (c : Cursor) {r : Frame} {d : Cursor} (h : got (a_frame r) (place d) ≡ frame_at s (place c)) where
  pub frame_inside : Inside s c → length s ≤ longest_input → Inside (take (r.payload.start + r.payload.count) s) (first_of r d)
  frame_inside g l = scan_inside (frame_scan s c h 0 (record { inside = g.inside; counted = g.counted; few = omega arith; short = l }))

  pub record_passed : {e : Cursor} → Passes (take (r.payload.start + r.payload.count) s) (first_of r d) r.format e → PassesRecord s c (resumed d e)
  record_passed p = record { is = λ mode k. record_got mode 8 s (place c) k (λ z. absurd (omega arith)) h (data_got mode _ r.format _ _ (k + 1) p.flat (p.is mode)) }

-- ---- so many in a row
module _ (s : List ℕ) (c d : Cursor) (p : PassesRecord s c d) where
  pub ahead_turn : (c₀ : Cursor) (n₀ k₀ i : ℕ) → i < n₀ → AheadOf s c₀ n₀ k₀ (record { cursor = c; rest = n₀ - i; count = k₀ + i }) → AheadOf s c₀ n₀ k₀ (record { cursor = d; rest = n₀ - (i + 1); count = k₀ + (i + 1) })
  ahead_turn c₀ n₀ k₀ i l h =
      let z : k₀ + (i + 1) ≡ k₀ + i + 1 = omega arith in
      rw z (record {
        scan = scan_on _ (flow_thrift memo 8 8) s c (k₀ + i) h.scan (p.is memo (k₀ + i));
        same = λ mode. scan_turn (flow mode depth_limit depth_limit) s c (k₀ + i) n₀ i (h.same mode) l (p.is mode (k₀ + i));
      })
