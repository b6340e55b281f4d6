-- A run: the cursor gives just the runs of the grammar, of which an input has one, and just its faults. So `decode_run` is a call that `Itemised` speaks of.
-- Assumes nothing.
use Prim.Native.Nat.{ℕ}
use mathlib.Core.Path.{◌≡◌, refl, sym, ap, ◌∙◌, subst}
use mathlib.Core.List.{List}
use native.Mathlib.Omega.{arith}
use native.Mathlib.Nat.{zero-add}
use lib.ListN.{length}
use Rattle.reading.specs.Script.{Forest, Found}
use Rattle.reading.specs.Cursor.{Out, got, stop, then}
use Rattle.reading.specs.Layout.{Mode, only}
use Rattle.reading.specs.Answer.{limited, from, no_header, Answer, refused, stored, datagrams, run}
use Rattle.reading.proofs.Stands.{place}
use Rattle.reading.proofs.Runs.{run_from}
use Rattle.reading.proofs.Faults.{fine, sure_then}
use Rattle.reading.proofs.Codes.{sure_run}
use Rattle.demands.specs.Itemised.{a_run}
use Rattle.demands.specs.Tries.{Run, RunStops}
use Rattle.demands.proofs.Quarter.{run_size}
use Rattle.demands.proofs.Itemised.{shown, Says, read, stopped, Reads}
use Rattle.demands.proofs.Tried.{Tried, done, halted, run_tried, run_read, run_stopped}

-- the ranges that the cursor gives
abbrev ranges_out : Out Found → Out Forest
ranges_out o = then o (λ f q. got f.ranges q)

module _ (mode : Mode) (s : List ℕ) where
  pub run_out : {g : Forest} {end n : ℕ} → Run mode s 0 g end n → datagrams mode (length s) s (from 0) ≡ got (only g) (place end n)
  unfolding run_from
  run_out {g} {end} {n} t = run_read mode s 0 t ∙ ap (λ (k : ℕ). got (only g) (place end k)) (zero-add n)

  run_halt : {c i n : ℕ} → RunStops mode s 0 c i n → datagrams mode (length s) s (from 0) ≡ stop c i n
  unfolding run_from
  run_halt {c} {i} {n} t = run_stopped mode s 0 t ∙ ap (λ (k : ℕ). stop c i k) (zero-add n)

  says : {o : Out Found} → Tried mode s (from 0) o → Says (a_run mode) s (ranges_out o)
  says (done {a} {q} n e t) = read (subst (λ (k : ℕ). Run mode s 0 a.ranges q.at k) (sym (e ∙ zero-add n)) t)
  says (halted {c} {i} {m} n e t) = stopped (subst (λ (k : ℕ). RunStops mode s 0 c i k) (sym (e ∙ zero-add n)) t)

pub run_reads : (mode : Mode) → Reads (a_run mode) (run mode)
unfolding shown stored run
run_reads mode = record {
  outcome = λ s. ranges_out (datagrams mode (length s) s (from 0));
  says = λ s. says mode s (run_tried mode (length s) s (from 0) (omega arith) (omega arith));
  is_read = λ s g end n t. ap ranges_out (run_out mode s t);
  is_stopped = λ s c i n t. ap ranges_out (run_halt mode s t);
  sure = λ s. sure_then (sure_run mode (length s) s (from 0)) (λ f q. fine);
  small = λ s g end n t. run_size mode s (only g) (place end n) (run_out mode s t);
  answer = λ s w. ap (λ (a : Answer). limited s a (refused 1 0 0 0 w)) (same w (datagrams mode (length s) s (from 0)));
}
  where
    same : (w : List ℕ) (o : Out Found) → stored (λ _. no_header) o w ≡ shown (a_run mode) (ranges_out o) w
    same w (got a q) = refl
    same w (stop c i n) = refl
