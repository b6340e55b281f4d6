-- Each vector leaves fewer bytes behind it.
use Rattle.std.proofs.Common.{length}
use Rattle.probe.proofs.vectors.Given as goal

abbrev pub decreases-loop-head : goal.decreases-loop-head
decreases-loop-head g l = length l.rest
