use Rattle.std.proofs.Common.{rules}
use Rattle.reading.specs.Layout.{sample}
use Rattle.reading.specs.Sizes.{depth_limit}
use Rattle.layout.specs.Shown.{mode_of}
use Rattle.layout.proofs.Scan.{scan_done, scan_on, scan_stop, scan_turn}
use Rattle.samples.proofs.Sampling.{sample_thrift}
use Rattle.samples.proofs.scan.samples.Goals as goal

pub returns-in_err-k : goal.returns-in_err-k
returns-in_err-k c =
    let e = scan_stop (sample (mode_of c.args.mode) depth_limit) _ c.loop-i.cur c.loop-i.found c.args.n c.loop-i.i c.loop-i.invariant.1 c.loop-i-test.true c.in_err-k.ensures in
    search rules

pub loop-i-preserved : goal.loop-i-preserved
loop-i-preserved c = (
  scan_on _ (sample_thrift _) _ _ _ c.loop-i.invariant.0 c.in_ok-k.ensures,
  scan_turn _ _ c.loop-i.cur c.loop-i.found c.args.n c.loop-i.i c.loop-i.invariant.1 c.loop-i-test.true c.in_ok-k.ensures,
)

pub returns : goal.returns
returns c = scan_done _ _ c.loop-i.cur c.loop-i.found c.args.n c.loop-i.i c.loop-i.invariant.1 c.loop-i-test.false
