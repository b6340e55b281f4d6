-- What holds of both calls that read an input into a store. Assumes nothing.
use Prim.Native.Nat.{ℕ, ◌*◌, ◌≤◌, ◌<◌}
use mathlib.Core.Path.{◌≡◌}
use mathlib.Core.List.{List}
use native.Mathlib.Omega.{arith}
use borrow.Author.Tests.{le-leb}
use lib.ListN.{length, take}
use Rattle.reading.specs.Answer.{whole_span_of, payload}
use Rattle.reading.specs.Sizes.{longest_input}
use Rattle.reading.specs.Layout.{Mode}
use Rattle.demands.specs.Calls.{Call, Public, decode, decode_run}
use Rattle.demands.specs.Nested.{last, Row, row, all_of, whole_of}
use Rattle.demands.specs.Itemised.{Subject}
use Rattle.demands.proofs.Owned.{own_bound, one_owns, run_owns}
use Rattle.demands.proofs.Placed.{Placed, one_placed, run_placed}
use Rattle.demands.specs.DescriptorFields.{range}
use Rattle.demands.specs.Frames.{FrameAt, Frame}
use Rattle.demands.proofs.Frames.{frame_payload, one_frames, run_frames}
use Rattle.demands.proofs.Itemised.{Reads, accepted_reads}
use Rattle.demands.proofs.Accepted.{one_reads}
use Rattle.demands.proofs.RunItemised.{run_reads}
use Rattle.demands.proofs.Unseen.{record_unseen, run_unseen}

pub reads : {mode : Mode} {t : Subject} {c : Call} → Public mode t c → Reads t c
reads {mode} decode = one_reads mode
reads {mode} decode_run = run_reads mode

pub steps_small : {mode : Mode} {t : Subject} {c : Call} → Public mode t c → (s w : List ℕ) → 4 * (c s w).steps ≤ length s
steps_small {mode} decode s w = let b = own_bound (one_owns mode s w).2 in omega (arith, b)
steps_small {mode} decode_run s w = let b = own_bound (run_owns mode s w).2 in omega (arith, b)

pub placed : {mode : Mode} {t : Subject} {c : Call} → Public mode t c → (s w : List ℕ) → Placed s (c s w)
placed {mode} decode s w = one_placed mode s w
placed {mode} decode_run s w = run_placed mode s w

-- a fault with code 8 is one of any input that is as long, and alike before it
pub unseen : {mode : Mode} {t : Subject} {c : Call} → Public mode t c → (s u : List ℕ) (i n : ℕ) → t.Stopped s 8 i n → length u ≡ length s → take i u ≡ take i s → t.Stopped u 8 i n
unseen {mode} decode = record_unseen mode
unseen {mode} decode_run = run_unseen mode

-- all of what a descriptor stands for is given, where the input has it
whole_had : (s : List ℕ) (r : Row) → length s ≤ longest_input → r.first ≤ r.span.start → last r.span ≤ length s → whole_of s r ≡ all_of r
unfolding whole_span_of
whole_had s r h k l = rw (le-leb (length s) longest_input h, le-leb r.first r.span.start k, le-leb (last r.span) (length s) l)

pub whole_there : {mode : Mode} {t : Subject} {c : Call} → Public mode t c → (s w : List ℕ) → (c s w).code ≡ 0 → (i : ℕ) → i < (c s w).needed → whole_of s (row (c s w).store i) ≡ all_of (row (c s w).store i)
whole_there p s w z i h = let t = placed p s w z in whole_had s (row _ i) (accepted_reads (reads p) s w z).short (t.first_before i h) (t.all_there i h)

pub framed : {mode : Mode} {t : Subject} {c : Call} → Public mode t c → (s w : List ℕ) → (c s w).code ≡ 0 → (i : ℕ) → i < (c s w).needed → Frame s (range (c s w).store i)
framed {mode} decode s w = one_frames mode s w
framed {mode} decode_run s w = run_frames mode s w

pub payload_there : {mode : Mode} {t : Subject} {c : Call} → Public mode t c → (s w : List ℕ) → (c s w).code ≡ 0 → (i : ℕ) (f : FrameAt s (range (c s w).store i))
    → payload s (range (c s w).store i).span.start (range (c s w).store i).span.count ≡ f.payload
payload_there {c} p s w z i f = frame_payload s (range (c s w).store i) (accepted_reads (reads p) s w z).short f
