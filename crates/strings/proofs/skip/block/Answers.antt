use Rattle.std.proofs.Common.{arith, ap, refl, length, ◌∙◌}
use Rattle.strings.proofs.Highs.{block_plain}
use Rattle.strings.proofs.skip.block.Goals as goal

pub returns-in-Some : goal.returns-in-Some
returns-in-Some g c = let k = c.in-Some.ensures.cases in block_plain c.args.s.now c.args.at g.row.N c.requires (omega arith) c.eight.ensures k.same (ap length k.same ∙ k.long)

pub returns-in-Some-as_array : goal.returns-in-Some-as_array
returns-in-Some-as_array g c = let k = c.in-Some-as_array.ensures.cases in block_plain c.args.s.now c.args.at g.row.N c.requires (omega arith) c.four.ensures k.same (ap length k.same ∙ k.long)

pub returns : goal.returns
returns g c = block_plain c.args.s.now c.args.at g.row.N c.requires (omega arith) c.each.ensures refl refl
