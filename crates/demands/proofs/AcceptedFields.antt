-- Demand 2, put together: where the code is 0 there is a reading by the grammar, the answer is that reading's, and field reading gives its values for
-- each descriptor that is read here. For one datagram, and for a run. Assumes nothing.
use Prim.Native.Nat.{ℕ, ◌*◌}
use mathlib.Core.Path.{◌≡◌, sym, subst}
use mathlib.Core.List.{List}
use lib.ListN.{length, drop}
use Rattle.reading.specs.Script.{Forest, Found}
use Rattle.reading.specs.Layout.{Mode, only}
use Rattle.reading.specs.Sizes.{descriptor_words, depth_limit}
use Rattle.reading.specs.Answer.{size, one, run}
use Rattle.reading.proofs.Stands.{place}
use Rattle.demands.specs.Readings.{Allowed}
use Rattle.demands.specs.Tries.{Run}
use Rattle.demands.specs.Itemised.{a_datagram, a_run, Accepted}
use Rattle.demands.proofs.Itemised.{accepted_reads, one_whole}
use Rattle.demands.proofs.Accepted.{given, one_reads}
use Rattle.demands.proofs.RunItemised.{run_out, run_reads}
use Rattle.demands.specs.DescriptorFields.{AllFields}
use Rattle.demands.proofs.Fielded.{datagram_fields, run_fields}

-- the fields of each descriptor in the store, by the ranges of the reading, or of the run
module _ (mode : Mode) (s w : List ℕ) where
  by_found : (a : Accepted (a_datagram mode) s w (one mode s w)) → AllFields mode s a.found.ranges (one mode s w).store
  by_found a =
      subst (AllFields mode s a.found.ranges) (sym a.answers.store)
      (datagram_fields mode s a.short a.found (place a.end a.items) (drop (descriptor_words * size a.found.ranges) w) (given mode depth_limit s a.reading.reading a.reading.shallow))

  pub one_fields : (one mode s w).code ≡ 0 → {f : Found} {bytes items : ℕ} → Allowed mode 0 s f bytes items → AllFields mode s f.ranges (one mode s w).store
  one_fields z r = let a = accepted_reads (one_reads mode) s w z in subst (λ (f : Found). AllFields mode s f.ranges (one mode s w).store) (one_whole (one_reads mode) s a.reading r).0 (by_found a)

  by_ranges : (a : Accepted (a_run mode) s w (run mode s w)) → AllFields mode s a.found (run mode s w).store
  by_ranges a =
      subst (AllFields mode s a.found) (sym a.answers.store)
      (run_fields mode s a.short (only a.found) (place a.end a.items) (drop (descriptor_words * size a.found) w) (length s) (run_out mode s a.reading))

  pub run_all_fields : (run mode s w).code ≡ 0 → {g : Forest} {end n : ℕ} → Run mode s 0 g end n → AllFields mode s g (run mode s w).store
  run_all_fields z t = let a = accepted_reads (run_reads mode) s w z in subst (λ (g : Forest). AllFields mode s g (run mode s w).store) (one_whole (run_reads mode) s a.reading t).0 (by_ranges a)
