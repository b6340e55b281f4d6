-- All that was looked at fits, or not.
use Rattle.std.proofs.Common.{◌≡◌}
use Rattle.strings.specs.Fits.{all_fit}
use Rattle.strings.proofs.skip.window.Given as goal

abbrev pub invariant-loop-i : goal.invariant-loop-i
invariant-loop-i g l = l.all ≡ all_fit l.s l.at l.i
