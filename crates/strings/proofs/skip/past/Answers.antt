use Rattle.strings.proofs.Skips.{run_skips, skips_on}
use Rattle.strings.proofs.skip.past.Goals as goal

pub returns-then-s-run : goal.returns-then-s-run
returns-then-s-run c = run_skips _ _ c.requires c.past_run-run.ensures

pub returns : goal.returns
returns c = skips_on _ _ _ _ (run_skips _ _ c.requires c.past_run-run.ensures) c.past_windows.ensures
