-- What each public call's own contract says of its result: the result itself. A theorem cites what a caller learns (`Learnt`, which the check makes
-- of the call's `ensures`), so that a weaker `ensures` is refused here. `s` is a reference to the bytes, and `e` the parameters at the exit. Assumes
-- nothing.
use Prim.Native.Nat.{◌+◌}
use mathlib.Core.Path.{◌≡◌}
use lib.ListN.{drop, get_or}
use Rattle.reading.specs.Utf8.{among, tail}
use Rattle.reading.proofs.Utf8.{width}
use Rattle.utf8.proofs as call

pub utf8_char_settled : (κs s at r e : _) → call.utf8_char.Reads.Learnt κs (s, (at, tt)) r e → r ≡ width (drop at s.now)
utf8_char_settled κs s at r e h = h

-- ---- what it calls

pub tail_settled : (κs a r e : _) → call.tail.Reads.Learnt κs (a, tt) r e → r ≡ tail a
tail_settled κs a r e h = h

pub among_settled : (κs lo hi b r e : _) → call.ranges.among.Reads.Learnt κs (lo, (hi, (b, tt))) r e → r ≡ among lo hi b
among_settled κs lo hi b r e h = h

pub behind_settled : (κs s at i r e : _) → call.ranges.behind.Reads.Learnt κs (s, (at, (i, tt))) r e → r ≡ get_or s.now (at + i) 0
behind_settled κs s at i r e h = h
