use Rattle.std.proofs.Common.{rules}
use Rattle.utf8.proofs.Places.{run_ends}
use Rattle.strings.proofs.Highs.{run_over}
use Rattle.strings.proofs.skip.past_run.Goals.{then-s-at-via-then-s-at, then-s-at-via-else-s-at+then-not-is_ascii}
use Rattle.strings.proofs.skip.past_run.Goals as goal

pub returns-then-s-at : goal.returns-then-s-at
returns-then-s-at c = elim c.then-s-at.branch [
  | then-s-at-via-then-s-at w ↦ run_ends _ _ w.if-s-at.true
  | then-s-at-via-else-s-at+then-not-is_ascii w ↦ run_over _ _ w.is_ascii.ensures (search rules) w.if-s-at.false
]
