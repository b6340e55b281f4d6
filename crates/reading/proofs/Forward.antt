-- An accepted reading goes forward, and ends inside. Assumes nothing.
use Prim.Native.Nat.{ℕ, ◌+◌, ◌*◌, ◌≤◌}
use mathlib.Core.Path.{◌≡◌}
use mathlib.Core.List.{List}
use lib.ListN.{length}
use Rattle.reading.specs.Script.{Found, Script, give, repeat}
use Rattle.reading.specs.Cursor.{Place, times, follow}
use Rattle.reading.specs.Answer.{from}
use Rattle.reading.proofs.Bounds.{Owes, owes}
use Rattle.reading.proofs.Counts.{repeat_is}
use Rattle.reading.proofs.Places.{Accepted, end_of, given}

-- ---- an accepted reading goes forward, and ends inside
pub forward : (sc : Script) (s : List ℕ) (at : ℕ) → at ≤ length s → Accepted (follow sc s (from at)) → (at ≤ end_of (follow sc s (from at))) × (end_of (follow sc s (from at)) ≤ length s)
unfolding end_of Owes
forward sc s at i h = let g = given (follow sc s (from at)) h in rw g.is (ahead g.found g.last (rw g.is at (owes sc s (from at) i)))
  where
    ahead : (a : Found) (q : Place) → (at ≤ q.at) × (q.at ≤ length s) × (4 * q.steps + at ≤ 4 * 0 + q.at) → (at ≤ q.at) × (q.at ≤ length s)
    ahead a q o = (o.0, o.1)

pub forward_times : (sc : Script) (n : ℕ) (s : List ℕ) (at : ℕ) → at ≤ length s → Accepted (times n (follow sc) s (from at))
    → (at ≤ end_of (times n (follow sc) s (from at))) × (end_of (times n (follow sc) s (from at)) ≤ length s)
forward_times sc n s at i h =
    let e : follow (repeat n sc (λ a. give a)) s (from at) ≡ times n (follow sc) s (from at) = repeat_is n sc s (from at) in
    rw (← e) (forward (repeat n sc (λ a. give a)) s at i (rw e h))
