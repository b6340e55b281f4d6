-- The three demands, said of what the public calls answer: `decode` answers `one mode s w` to the input s and the store w, `decode_run` answers
-- `run mode s w`, each for both modes. This is the file to open first: each theorem is one line, from the file that its heading names. Assumes nothing.
use Prim.Native.Nat.{ℕ, suc, ◌+◌, ◌*◌, ◌/◌, ◌≤◌, ◌<◌}
use mathlib.Core.Path.{◌≡◌, sym, ap, subst}
use mathlib.Core.Logic.{◌⊎◌, ◌↔◌}
use mathlib.Core.Bool.{true}
use mathlib.Core.List.{List, ◌++◌}
use lib.ListN.{length, take, drop}
use Rattle.reading.specs.Utf8.{utf8, Longest}
use Rattle.reading.specs.Numbers.{known}
use Rattle.reading.specs.Script.{Value, Forest, Found, Script}
use Rattle.reading.specs.Grammar.{Opaque, Many, Is}
use Rattle.reading.specs.Layout.{Mode, memo, base, Field, any_word, segment, datagram_to, datagram}
use Rattle.reading.specs.Sizes.{longest_input, descriptor_words, depth_limit}
use Rattle.reading.specs.Answer.{nobody, size, room, no_header, Answer, refused, one, run, Fields, read, Listed, list_word_of, segment_at, payload}
use Rattle.demands.specs.Depths.{Shallow}
use Rattle.demands.proofs.Limit.{no_deeper, same_reading}
use Rattle.demands.specs.Readings.{Reading, Allowed}
use Rattle.demands.proofs.Accepted.{one_reading}
use Rattle.demands.specs.DescriptorFields.{range, AllFields}
use Rattle.demands.proofs.AcceptedFields.{one_fields, run_all_fields}
use Rattle.demands.specs.Stops.{Stops}
use Rattle.demands.specs.Codes.{one_codes, run_codes, field_codes, Each}
use Rattle.demands.proofs.Codes.{one_coded, run_coded}
use Rattle.demands.proofs.CodesOccur.{one_occur, run_occur, field_occur}
use Rattle.demands.specs.Itemised.{Subject, a_datagram, a_run, Answers, Itemised}
use Rattle.demands.specs.Demanded.{AcceptsExactly, AnswersReading, CountsItems}
use Rattle.demands.proofs.Itemised.{itemised, only_itemised, long_refused, fault_refused, reading_answers, one_whole, one_fault, no_fault, room_last, never_for_room, needed_small, accepts_exactly, answers_reading, counts_items, accepted_only, eight_unseen}
use Rattle.demands.specs.Owned.{firsts, firsts_before, Own, Counted, RunCounted, FieldsCounted}
use Rattle.demands.proofs.Owned.{own, own_before, one_owns, run_owns, fields_own}
use Rattle.demands.specs.Tries.{Run}
use Rattle.demands.specs.Pads.{InPad, SameButPads}
use Rattle.demands.proofs.CursorPads.{in_a_dump}
use Rattle.demands.proofs.Pads.{pads_free}
use Rattle.demands.proofs.PadFields.{pads_free_fields}
use Rattle.demands.specs.Nested.{end, last, Inside, ByteOf, row, all_of, whole_of, Under}
use Rattle.demands.proofs.Placed.{under_inside, together}
use Rattle.demands.proofs.Modes.{other_fields, same_answer, with_steps, run_up_to, run_to_end}
use Rattle.demands.specs.FieldsItemised.{FieldsReading, FieldsItemised, FieldsRead}
use Rattle.demands.proofs.FieldsItemised.{fields_itemised, itemised_only, fields_accepted, fields_coded, fields_quartered, one_fields_reading}
use Rattle.demands.specs.Calls.{Call, Public}
use Rattle.demands.proofs.Kept.{kept}
use Rattle.demands.proofs.Calls.{reads, unseen, steps_small, placed, whole_there, framed, payload_there}
use Rattle.demands.proofs.Impostors.{p2, refuses_all, answers_p2, writes_nothing, own_steps, run_invents, refuser, storeless, stepless, refuser_else, storeless_else, stepless_else}
use Rattle.demands.specs.Frames.{FrameAt, Frame}
use Rattle.demands.specs.Parts.{StandsAt, PayloadIs, ListedIs, SegmentItemised, FirstOfSegments}
use Rattle.demands.proofs.Parts.{payload_is, payload_only, opaque_payload, listed_is, listed_only, words_present, segment_is, segment_only, first_segment}
use Rattle.demands.specs.Abnf.{UTF8Char, UTF8Octets}
use Rattle.demands.proofs.Characters.{test_by_rules, rules_by_test}
use Rattle.demands.proofs.IllFormed.{well_before, none_longer, no_char_there}

-- ==== of both calls: of `decode` the subject t is one datagram, of `decode_run` it is a run of them
module _ {mode : Mode} {t : Subject} {c : Call} (p : Public mode t c) where
  -- ---- demands 2 and 3 (`Demanded`; proved in `Itemised`, of `decode` by `Accepted`, of `decode_run` by `Tried` and `RunItemised`): within the limit and
  -- with a store for a quarter of the length, code 0 exactly where the grammar reads the input
  pub accepted_exactly : AcceptsExactly t c
  accepted_exactly = accepts_exactly (reads p)

  -- the answer with code 0 is that reading's
  pub accepted_is_read : AnswersReading t c
  accepted_is_read = answers_reading (reads p)

  -- the steps are its items, up to where it stopped
  pub steps_are_items : CountsItems t c
  steps_are_items = counts_items (reads p)

  -- and whatever meets these two answers what it accepts as the call does
  pub accepted_alike : (f : Call) → AnswersReading t f → CountsItems t f → (s w : List ℕ) → (f s w).code ≡ 0 → f s w ≡ c s w
  accepted_alike f = accepted_only (reads p)

-- for every input and every store
module _ {mode : Mode} {t : Subject} {c : Call} (p : Public mode t c) (s w : List ℕ) where
  -- ---- demand 1 (`Kept`): a refusal leaves every store word, shows a header of zeros, and needs no descriptors but for want of room
  pub refusal_keeps : ((c s w).code ≡ 0 → ⊥) → (c s w).store ≡ w
  refusal_keeps = (kept (reads p) s w).refused_store

  pub refusal_shows : ((c s w).code ≡ 0 → ⊥) → (c s w).head ≡ no_header
  refusal_shows = (kept (reads p) s w).refused_head

  pub refusal_needs : ((c s w).code ≡ 0 → ⊥) → ((c s w).code ≡ 9 → ⊥) → (c s w).needed ≡ 0
  refusal_needs = (kept (reads p) s w).refused_needed

  -- an acceptance leaves the words behind its descriptors, and the store its length
  pub rest_stays : drop (descriptor_words * (c s w).needed) (c s w).store ≡ drop (descriptor_words * (c s w).needed) w
  rest_stays = (kept (reads p) s w).behind

  pub length_stays : length (c s w).store ≡ length w
  length_stays = (kept (reads p) s w).words

  -- ---- demand 3, the bounds (`Owned`, `Quarter`): accepted or refused; a run's figures are sums over every datagram tried
  pub steps_bounded : 4 * (c s w).steps ≤ length s
  steps_bounded = steps_small p s w

  pub needed_bounded : 4 * (c s w).needed ≤ length s
  needed_bounded = needed_small (reads p) s w

  -- so a store for a quarter of the length, rounded down, is never refused for room
  pub quarter_suffices : length s / 4 ≤ room w → (c s w).code ≡ 9 → ⊥
  quarter_suffices = never_for_room (reads p) s w

  -- ---- demand 3, nesting (`Placed`, `Siblings`, `Nested`): in an accepted input a datagram's descriptor has no parent, and any other lies inside its
  -- parent, which stands before it
  pub datagram_has_no_parent : (c s w).code ≡ 0 → (i : ℕ) → i < (c s w).needed → (row (c s w).store i).kind ≡ 0 → (row (c s w).store i).parent ≡ nobody
  datagram_has_no_parent z = (placed p s w z).no_parent

  pub parent_before : (c s w).code ≡ 0 → (i : ℕ) → i < (c s w).needed → ((row (c s w).store i).kind ≡ 0 → ⊥) → (row (c s w).store i).parent < i
  parent_before z = (placed p s w z).parent_before

  pub child_inside_parent : (c s w).code ≡ 0 → (i : ℕ) → i < (c s w).needed → ((row (c s w).store i).kind ≡ 0 → ⊥)
      → Inside (row (c s w).store i).span (row (c s w).store (row (c s w).store i).parent).span
  child_inside_parent z = (placed p s w z).parent_holds

  -- its first byte is a byte of its parent's range, and a datagram's is its range's own; no range begins before it
  pub first_inside_parent : (c s w).code ≡ 0 → (i : ℕ) → i < (c s w).needed → ((row (c s w).store i).kind ≡ 0 → ⊥)
      → ByteOf (row (c s w).store i).first (row (c s w).store (row (c s w).store i).parent).span
  first_inside_parent z = (placed p s w z).first_inside

  pub datagram_from_first : (c s w).code ≡ 0 → (i : ℕ) → i < (c s w).needed → (row (c s w).store i).kind ≡ 0 → (row (c s w).store i).first ≡ (row (c s w).store i).span.start
  datagram_from_first z = (placed p s w z).own_first

  pub first_before_range : (c s w).code ≡ 0 → (i : ℕ) → i < (c s w).needed → (row (c s w).store i).first ≤ (row (c s w).store i).span.start
  first_before_range z = (placed p s w z).first_before

  -- all of it, to the end of its pad, lies in its parent's range, and in the input
  pub pad_inside_parent : (c s w).code ≡ 0 → (i : ℕ) → i < (c s w).needed → ((row (c s w).store i).kind ≡ 0 → ⊥)
      → last (row (c s w).store i).span ≤ end (row (c s w).store (row (c s w).store i).parent).span
  pad_inside_parent z = (placed p s w z).pad_inside

  pub pad_inside_input : (c s w).code ≡ 0 → (i : ℕ) → i < (c s w).needed → last (row (c s w).store i).span ≤ length s
  pad_inside_input z = (placed p s w z).all_there

  -- so that `latchplume_whole` gives all of it
  pub whole_is_given : (c s w).code ≡ 0 → (i : ℕ) → i < (c s w).needed → whole_of s (row (c s w).store i) ≡ all_of (row (c s w).store i)
  whole_is_given = whole_there p s w

  -- and a sibling's first byte is at or after the end of the one before, and of its pad: counted from it, siblings are disjoint
  pub sibling_after_sibling : (c s w).code ≡ 0 → (i k : ℕ) → i < k → k < (c s w).needed → (row (c s w).store i).parent ≡ (row (c s w).store k).parent
      → last (row (c s w).store i).span ≤ (row (c s w).store k).first
  sibling_after_sibling z = (placed p s w z).siblings_apart

  -- ---- demand 3, the order (`Placed`, `Ordered`): the descriptors are in order of first byte, a word apart at least, in a run too
  pub in_order_of_first_byte : (c s w).code ≡ 0 → (i k : ℕ) → i < k → k < (c s w).needed → (row (c s w).store i).first + 4 ≤ (row (c s w).store k).first
  in_order_of_first_byte z = (placed p s w z).in_order

  -- and depth first: of two, the second is under the first, or its first byte is at or after the end of the first's pad
  pub under_or_behind : (c s w).code ≡ 0 → (i k : ℕ) → i < k → k < (c s w).needed → Under (c s w).store i k ⊎ (last (row (c s w).store i).span ≤ (row (c s w).store k).first)
  under_or_behind z = (placed p s w z).under_or_behind

  -- all of what is under a descriptor lies in its range
  pub under_it_inside : (c s w).code ≡ 0 → (i k : ℕ) → k < (c s w).needed → Under (c s w).store i k
      → ((row (c s w).store k).first < end (row (c s w).store i).span) × (last (row (c s w).store k).span ≤ end (row (c s w).store i).span)
  under_it_inside z i k h u = under_inside (placed p s w z) u h

  -- and those under it stand together: a descriptor between it and one under it is under it too
  pub all_under_it_together : (c s w).code ≡ 0 → (i j k : ℕ) → i < j → j < k → k < (c s w).needed → Under (c s w).store i k → Under (c s w).store i j
  all_under_it_together z = together (placed p s w z)

  -- ---- what a descriptor stands for (`Frames`): of a sample or a record, a format word and an opaque, whose payload is its range, and is answered
  pub frame_stands : (c s w).code ≡ 0 → (i : ℕ) → i < (c s w).needed → Frame s (range (c s w).store i)
  frame_stands = framed p s w

  pub payload_of_frame : (c s w).code ≡ 0 → (i : ℕ) (f : FrameAt s (range (c s w).store i)) → payload s (range (c s w).store i).span.start (range (c s w).store i).span.count ≡ f.payload
  payload_of_frame = payload_there p s w

  -- ---- the answer (`Itemised`) is one of four, too long, stopped after so many items with why the next is none, read whole without room, or accepted; and
  -- no other answer is one of them
  pub answered_exactly : (a : Answer) → (a ≡ c s w) ↔ Itemised t s w a
  answered_exactly a = (λ e. subst (Itemised t s w) (sym e) (itemised (reads p) s w), only_itemised (reads p) s w)

  -- a reading that the store has room for is answered; there is one
  pub read_is_accepted : {x : t.Finding} {end n : ℕ} → length s ≤ longest_input → t.Whole s x end n → size (t.ranges x) ≤ room w → Answers t w x end (c s w) × ((c s w).steps ≡ n)
  read_is_accepted = reading_answers (reads p) s w

  pub no_second_reading : {x y : t.Finding} {end last n m : ℕ} → t.Whole s x end n → t.Whole s y last m → (x ≡ y) × (end ≡ last) × (n ≡ m)
  no_second_reading = one_whole (reads p) s

  -- ---- the first fault: code 1 comes before all
  pub too_long_first : longest_input < length s → c s w ≡ refused 1 0 0 0 w
  too_long_first = long_refused (reads p) s w

  -- then the first fault; there is one, and none where there is a reading
  pub first_fault_answered : {k i n : ℕ} → length s ≤ longest_input → t.Stopped s k i n → c s w ≡ refused k i n 0 w
  first_fault_answered = fault_refused (reads p) s w

  pub first_fault_only : {k i n l j m : ℕ} → t.Stopped s k i n → t.Stopped s l j m → (k ≡ l) × (i ≡ j) × (n ≡ m)
  first_fault_only = one_fault (reads p) s

  pub fault_or_reading : {k i n end m : ℕ} {x : t.Finding} → t.Stopped s k i n → t.Whole s x end m → ⊥
  fault_or_reading = no_fault (reads p) s

  -- code 9 comes after all: only where there is a whole reading, for which the store has no room; steps and needed are that reading's
  pub no_room_last : (c s w).code ≡ 9
      → (x : t.Finding) × (end n : ℕ) × t.Whole s x end n × (room w < size (t.ranges x)) × (c s w ≡ refused 9 0 n (size (t.ranges x)) w)
  no_room_last = room_last (reads p) s w

  -- code 8 precedes any look at that record's bytes (`Unseen`): an input that is as long, and alike before that position, is answered alike
  pub record_not_looked_at : (u : List ℕ) → (c s w).code ≡ 8 → length u ≡ length s → take (c s w).at u ≡ take (c s w).at s → c u w ≡ c s w
  record_not_looked_at u = eight_unseen (reads p) (unseen p) s u w

-- ==== one datagram
module _ (mode : Mode) (s w : List ℕ) where
  -- ---- demand 2 (`Limit`): no input has two readings, however deep
  pub only_reading : {f g : Found} {n m k l : ℕ} → Reading mode 0 s f n k → Reading mode 0 s g m l → (f ≡ g) × (n ≡ m) × (k ≡ l)
  only_reading = one_reading mode s

  -- the fields of each descriptor that is read here (`Fielded`): field reading gives the values that the grammar reads at the start of its range, with
  -- which it reads, behind them, what this reading has inside the range
  pub fields_are_read : (one mode s w).code ≡ 0 → {f : Found} {bytes items : ℕ} → Allowed mode 0 s f bytes items → AllFields mode s f.ranges (one mode s w).store
  fields_are_read = one_fields mode s w

  -- ---- demand 3 (`Owned`): each item that is a step owns four bytes that no other owns; there are as many as steps, and the four bytes from the first
  -- of each on are apart, and in the input
  pub steps_own_bytes : (at : List ℕ) × Counted mode s at × Own 0 (length s) (one mode s w).steps at
  steps_own_bytes = one_owns mode s w

  -- ---- the code is one of those of the rules (docs/RULES.md, 5; `Codes`)
  pub code_is_listed : known one_codes (one mode s w).code ≡ true
  code_is_listed = one_coded mode s w

  -- ---- bytes that do not matter (`Pads`): of an input s that has a reading, change what the pads of its opaques and strings hold, and what is behind
  -- its end, and how long that is: the answer is the same, whatever the store
  pub pads_do_not_matter : (t : List ℕ) {f : Found} {bytes items : ℕ} (r : Allowed mode 0 s f bytes items) → length s ≤ longest_input → length t ≤ longest_input → SameButPads mode r t → one mode t w ≡ one mode s w
  pads_do_not_matter t = pads_free mode s t w

  -- nor to field reading (`PadFields`): whatever fields are asked for of a descriptor of s, they are answered of that input as of s
  pub pads_do_not_matter_to_fields : (t : List ℕ) {f : Found} {bytes items : ℕ} (r : Allowed mode 0 s f bytes items) → (one mode s w).code ≡ 0 → length t ≤ longest_input → SameButPads mode r t
      → (i : ℕ) → i < (one mode s w).needed → (ak af : ℕ)
      → let d = range (one mode s w).store i in
      read mode ak af t d.kind d.format d.span.start d.span.count ≡ read mode ak af s d.kind d.format d.span.start d.span.count
  pads_do_not_matter_to_fields t = pads_free_fields mode s t w

-- the pad of an opaque or a string that starts at o, in a dump: behind its length word and the bytes x that this counts, none of which is in it, up to
-- the end of the opaque
pub pad_in_a_dump : {x u : List ℕ} (o : ℕ) (q : Opaque x u) (i : ℕ) → InPad o q i ↔ ((o + 4 + length x ≤ i) × (i < o + length u))
pad_in_a_dump = in_a_dump

-- ==== a run (`Tries` says what a run is by the grammar)
module _ (mode : Mode) (s w : List ℕ) where
  pub run_fields_are_read : (run mode s w).code ≡ 0 → {g : Forest} {end n : ℕ} → Run mode s 0 g end n → AllFields mode s g (run mode s w).store
  run_fields_are_read = run_all_fields mode s w

  pub run_steps_own_bytes : (at : List ℕ) × RunCounted mode s at × Own 0 (length s) (run mode s w).steps at
  run_steps_own_bytes = run_owns mode s w

  -- the code is one of those of the rules, and never 2 (`Codes`)
  pub run_code_is_listed : known run_codes (run mode s w).code ≡ true
  run_code_is_listed = run_coded mode s w

-- ==== the two modes (`Modes`)
module _ (s w : List ℕ) where
  -- what is accepted with addresses of eight bytes is accepted with addresses of six, and the answer is the same: position, steps, header and descriptors
  pub memo_then_base : (one memo s w).code ≡ 0 → one base s w ≡ one memo s w
  memo_then_base = same_answer s w

  -- so where both modes accept, the steps are the same
  pub both_same_steps : (one memo s w).code ≡ 0 → (one base s w).code ≡ 0 → (one base s w).steps ≡ (one memo s w).steps
  both_same_steps h k = ap (λ (a : Answer). a.steps) (same_answer s w h)

  -- a run, which a datagram that is cut ends: it is the base mode's run over the bytes up to where it ended, but for the steps of what was cut
  pub run_memo_then_base : (run memo s w).code ≡ 0 → (n : ℕ) × (run base (take (run memo s w).at s) w ≡ with_steps n (run memo s w))
  run_memo_then_base = run_up_to memo s w

  -- and where all of the input was read, the answer is the same
  pub run_to_end_alike : (run memo s w).code ≡ 0 → (run memo s w).at ≡ length s → run base s w ≡ run memo s w
  run_to_end_alike = run_to_end memo s w

-- the fields of every descriptor but a sampled Ethernet record's are the same
pub other_fields_alike : (ak af : ℕ) → (ak ≡ 2 → af ≡ 2 → ⊥) → (s : List ℕ) (k f start extent : ℕ) → read base ak af s k f start extent ≡ read memo ak af s k f start extent
other_fields_alike = other_fields

-- ==== field reading (`FieldsItemised`), of a descriptor of this kind, format and range that is asked for the fields of another kind and format
module _ (mode : Mode) (ak af : ℕ) (s : List ℕ) (k f start extent : ℕ) where
  -- the answer is one of five, too long, a range that passes the input, another kind or format, stopped after so many items, or read by the grammar;
  -- and no other answer is one of them
  pub fields_read_exactly : (a : Fields) → (a ≡ read mode ak af s k f start extent) ↔ FieldsItemised mode ak af s k f start extent a
  fields_read_exactly a = (λ e. subst (FieldsItemised mode ak af s k f start extent) (sym e) (fields_itemised mode ak af s k f start extent), itemised_only mode ak af s k f start extent)

  -- code 0 exactly where the grammar reads the fields asked for, from the start of the range, held to it
  pub fields_accepted_exactly : ((read mode ak af s k f start extent).code ≡ 0) ↔ ((vs : List Value) × (bytes items : ℕ) × FieldsRead mode ak af s k f start extent vs bytes items)
  fields_accepted_exactly = fields_accepted mode ak af s k f start extent

  -- the code is one of those of the rules, and never 8 or 9
  pub fields_code_is_listed : known field_codes (read mode ak af s k f start extent).code ≡ true
  fields_code_is_listed = fields_coded mode ak af s k f start extent

  -- four bytes of the range for each step, accepted or refused
  pub fields_steps_bounded : 4 * (read mode ak af s k f start extent).steps ≤ extent
  fields_steps_bounded = fields_quartered mode ak af s k f start extent

  -- and each step owns four of them that no other owns (`Owned`)
  pub fields_steps_own_bytes : (at : List ℕ) × FieldsCounted mode ak af s k f start extent at × Own start (start + extent) (read mode ak af s k f start extent).steps at
  fields_steps_own_bytes = fields_own mode ak af s k f start extent

-- no bytes have two readings of a layout
pub only_fields_reading : (l : List Field) (start : ℕ) (b : List ℕ) {vs us : List Value} {n m i j : ℕ} → FieldsReading l start b vs n i → FieldsReading l start b us m j
    → (vs ≡ us) × (n ≡ m) × (i ≡ j)
only_fields_reading = one_fields_reading

-- ==== each code of a call's table is answered to some input (`CodesOccur`)
pub codes_occur : (mode : Mode) → Each (λ c. (s w : List ℕ) × ((one mode s w).code ≡ c)) one_codes
codes_occur mode = one_occur mode

pub run_codes_occur : (mode : Mode) → Each (λ c. (s w : List ℕ) × ((run mode s w).code ≡ c)) run_codes
run_codes_occur mode = run_occur mode

pub field_codes_occur : (mode : Mode) → Each (λ c. (ak af : ℕ) × (s : List ℕ) × (k f start extent : ℕ) × ((read mode ak af s k f start extent).code ≡ c)) field_codes
field_codes_occur mode = field_occur mode

-- ==== what is answered as start and count (`Parts`)
module _ (s : List ℕ) where
  -- a payload is the bytes of its range, and is empty where codes 1 or 10 would apply; of an opaque or a string it is what that holds
  pub payload_exactly : (start extent : ℕ) (x : List ℕ) → (x ≡ payload s start extent) ↔ PayloadIs s start extent x
  payload_exactly start extent x = (λ e. subst (PayloadIs s start extent) (sym e) (payload_is s start extent), payload_only s start extent)

  pub payload_of_opaque : {u x : List ℕ} (o : ℕ) → length s ≤ longest_input → StandsAt s o u → Opaque x u → payload s (o + 4) (length x) ≡ x
  payload_of_opaque = opaque_payload

  -- a word of a list is the one with so many words before it, and none where the list or the input has no such word
  pub list_word_exactly : (start count i : ℕ) (a : Listed) → (a ≡ list_word_of s start count i) ↔ ListedIs s start count i a
  list_word_exactly start count i a = (λ e. subst (ListedIs s start count i) (sym e) (listed_is s start count i), listed_only s start count i)

  -- so each word of a list that stands there is present
  pub list_words_present : (start count : ℕ) (b : List ℕ) (f : Found) (n : ℕ) → StandsAt s start b → Many count (Is any_word) start b f n → (i : ℕ) → i < count
      → (list_word_of s start count i).present ≡ true
  list_words_present = words_present s

  -- a segment of an AS path is read by the grammar, or refused; and the segments of a path one by one, each where the one before ended
  pub segment_exactly : (at : ℕ) (a : Fields) → (a ≡ segment_at s at) ↔ SegmentItemised s at a
  segment_exactly at a = (λ e. subst (SegmentItemised s at) (sym e) (segment_is s at), segment_only s at)

  pub segments_one_by_one : (at n : ℕ) (b : List ℕ) (f : Found) (k : ℕ) → length s ≤ longest_input → StandsAt s at b → Many (suc n) (Is segment) at b f k → FirstOfSegments s at n b
  segments_one_by_one = first_segment s

-- ==== the grammar: it knows no limit of depth (`Limit`), and its strings are RFC 3629's (`Characters`, by `Abnf`)
pub depth_is_the_limit : (mode : Mode) (o : ℕ) (b : List ℕ) (f : Found) (k : ℕ) → ((n : ℕ) × Is (datagram_to mode n) o b f k × Shallow depth_limit f.ranges) ↔ Is (datagram mode) o b f k
depth_is_the_limit mode o b f k = (λ (n, i, z). same_reading mode n depth_limit o b f k i z, λ i. (depth_limit, i, no_deeper mode depth_limit o b f k i))

pub strings_are_utf8 : (s : List ℕ) → (utf8 s ≡ true) ↔ UTF8Octets s
strings_are_utf8 s = (test_by_rules s, λ t. rules_by_test t)

-- in every reading by the grammar, of any script, and in one that stops, each item owns four bytes that no other owns (`Owned`)
pub items_own_bytes : (sc : Script) (o : ℕ) (b : List ℕ) (f : Found) (n : ℕ) (t : Is sc o b f n) → Own o (o + length b) n (firsts sc o b f n t)
items_own_bytes = own

pub items_before_own_bytes : {sc : Script} {o c i n : ℕ} {b : List ℕ} (t : Stops sc o b c i n) → Own o (o + length b) n (firsts_before t)
items_before_own_bytes = own_before

-- ==== where a string is ill-formed (`IllFormed`): `Stops` gives code 7 behind its longest well-formed beginning, of n bytes. By the ABNF these are
-- well-formed, no longer beginning is, and no character begins behind them
module _ {x : List ℕ} {n : ℕ} (l : Longest x n) where
  pub well_formed_before : UTF8Octets (take n x)
  well_formed_before = well_before l

  pub no_longer_beginning : (m : ℕ) → n < m → m ≤ length x → UTF8Octets (take m x) → ⊥
  no_longer_beginning = none_longer l

  pub ill_formed_there : (u v : List ℕ) → drop n x ≡ u ++ v → UTF8Char u → ⊥
  ill_formed_there = no_char_there l

-- ==== the impostors (`Impostors`): each falls to the demand that the rules name for it (docs/RULES.md, R14.4)
module _ (mode : Mode) (f : Call) where
  -- "exactly when" shuts out a decoder that refuses all, and one that answers P2 always
  pub not_refuses_all : AcceptsExactly (a_datagram mode) f → ((s w : List ℕ) → (f s w).code ≡ 0 → ⊥) → ⊥
  not_refuses_all = refuses_all mode f

  pub not_answers_p2 : AcceptsExactly (a_datagram mode) f → ((s w : List ℕ) → f s w ≡ f p2 w) → ⊥
  not_answers_p2 = answers_p2 mode f

  -- "descriptors are that reading" shuts out one that accepts just so, and writes no descriptor
  pub not_writes_nothing : AcceptsExactly (a_datagram mode) f → AnswersReading (a_datagram mode) f → ((s w : List ℕ) → (f s w).store ≡ w) → ⊥
  not_writes_nothing = writes_nothing mode f

  -- the items of the reading shut out one that meets demand 2, and makes its step count of the input's length, the code, the position and the descriptors
  pub not_own_steps : AcceptsExactly (a_datagram mode) f → AnswersReading (a_datagram mode) f → CountsItems (a_datagram mode) f
      → (g : ℕ → ℕ → ℕ → ℕ → ℕ) → ((s w : List ℕ) → (f s w).steps ≡ g (length s) (f s w).code (f s w).at (f s w).needed) → ⊥
  not_own_steps = own_steps mode f

  -- "exactly when", of a run, shuts out one that is made of its first datagram's answer, by a call d that meets the demands, and the input's length
  pub not_run_invents : AcceptsExactly (a_run mode) f → (d : Call) → AcceptsExactly (a_datagram mode) d → AnswersReading (a_datagram mode) d → CountsItems (a_datagram mode) d
      → (g : Answer → ℕ → List ℕ → Answer) → ((s w : List ℕ) → f s w ≡ g (d s w) (length s) w) → ⊥
  not_run_invents = run_invents mode f

-- and to that alone: `decode` with code 2 always, with the store as it was, or with 0 steps meets the other two
pub refuser_meets_the_others : (mode : Mode) → AnswersReading (a_datagram mode) (refuser mode) × CountsItems (a_datagram mode) (refuser mode)
refuser_meets_the_others mode = refuser_else mode

pub storeless_meets_the_others : (mode : Mode) → AcceptsExactly (a_datagram mode) (storeless mode) × CountsItems (a_datagram mode) (storeless mode)
storeless_meets_the_others mode = storeless_else mode

pub stepless_meets_the_others : (mode : Mode) → AcceptsExactly (a_datagram mode) (stepless mode) × AnswersReading (a_datagram mode) (stepless mode)
stepless_meets_the_others mode = stepless_else mode
