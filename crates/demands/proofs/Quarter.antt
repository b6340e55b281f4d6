-- Four bytes of the input for each range that is found: in one datagram, and in a run. Assumes nothing.
use Prim.Native.Nat.{ℕ, ◌*◌, ◌≤◌}
use mathlib.Core.Path.{◌≡◌}
use mathlib.Core.List.{List}
use native.Mathlib.Omega.{arith}
use lib.ListN.{length}
use Rattle.reading.specs.Script.{Found}
use Rattle.reading.specs.Cursor.{Place, got, follow}
use Rattle.reading.specs.Layout.{Mode, datagram}
use Rattle.reading.specs.Sizes.{depth_limit}
use Rattle.reading.specs.Answer.{from, size, datagrams}
use Rattle.reading.proofs.Bounds.{Owes, owes}
use Rattle.reading.proofs.Room.{thrifty_datagram}
use Rattle.reading.proofs.Runs.{run_from, thrifty_run}

module _ (mode : Mode) (s : List ℕ) where
  pub one_size : (a : Found) (q : Place) → follow (datagram mode) s (from 0) ≡ got a q → 4 * size a.ranges ≤ length s
  unfolding Owes
  one_size a q e = let t = thrifty_datagram mode depth_limit s (from 0) a q (omega arith) e in let o = rw e at (owes (datagram mode) s (from 0) (omega arith)) in omega (arith, t, o.1)

  pub run_size : (a : Found) (q : Place) → datagrams mode (length s) s (from 0) ≡ got a q → 4 * size a.ranges ≤ length s
  unfolding run_from
  run_size a q e = let t = thrifty_run mode s 0 (omega arith) e in omega (arith, t.0, t.1)
