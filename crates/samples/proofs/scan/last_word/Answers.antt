use Rattle.std.proofs.Common.{rules, arith}
use Rattle.samples.proofs.Sampling.{last_cut, last_ends, last_fits, last_got}
use Rattle.samples.proofs.scan.last_word.Goals as goal

pub returns-in_err-end : goal.returns-in_err-end
returns-in_err-end c = let e = last_cut _ _ _ c.requires.inside c.in_err-end.ensures in search rules

pub overflow_sub-end : goal.overflow_sub-end
overflow_sub-end c = omega (arith, last_ends _ _ _ c.requires.inside c.in_ok-end.ensures, c.requires.some)

pub be32-requires : goal.be32-requires
be32-requires c = omega (arith, last_ends _ _ _ c.requires.inside c.in_ok-end.ensures, last_fits _ _ _ c.requires.inside c.in_ok-end.ensures, c.requires.some)

pub returns : goal.returns
returns c = rw c.be32.ensures (last_got _ _ _ c.requires.inside c.in_ok-end.ensures c.requires.some)
