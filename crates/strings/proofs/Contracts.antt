-- What each public call's own contract says of its result: the result itself, but for the skips. A theorem cites what a caller learns
-- (`Learnt`, which the check makes of the call's `ensures`), so that a weaker `ensures` is refused here. `s` is a reference to the bytes,
-- and `e` the parameters at the exit. Assumes nothing.
use mathlib.Core.Path.{◌≡◌}
use Rattle.reading.specs.Utf8.{well_formed_of}
use Rattle.strings.specs.Fits.{fits}
use Rattle.strings.specs.Skips.{Skips}
use Rattle.strings.proofs as call

pub well_formed_settled : (κs s r e : _) → call.well_formed.Reads.Learnt κs (s, tt) r e → r ≡ well_formed_of s.now
well_formed_settled κs s r e h = h

pub fits_settled : (κs a b c d r e : _) → call.fits.fits.Reads.Learnt κs (a, (b, (c, (d, tt)))) r e → r ≡ fits a b c d
fits_settled κs a b c d r e h = h

-- how far a skip goes is left open: it decides nothing
pub past_says : (κs s at r e : _) → call.skip.past.Reads.Learnt κs (s, (at, tt)) r e → Skips s.now at r
past_says κs s at r e h = h

pub short_says : (κs s r e : _) → call.skip.short.Reads.Learnt κs (s, tt) r e → Skips s.now 0 r
short_says κs s r e h = h
