use Rattle.std.proofs.Common.{leb, true, ◌∙◌, ◌&&◌, rules, tests}
use Rattle.std.proofs.lemmas.Iterator.{YieldsList-from_slice}
use Rattle.std.proofs.lemmas.Iterator.Consumers.{fold_from_yields_List}
use Rattle.strings.proofs.Highs.{fold_plain}
use Rattle.strings.proofs.skip.each.Goals as goal

pub returns : goal.returns
returns c = fold_from_yields_List _ (λ all byte. all && leb byte 0x7f) true c.fold.result c.fold.ensures.ran (YieldsList-from_slice c.args.bytes.now cc) (λ a x b q k. search (rules, tests)) ∙ fold_plain true c.args.bytes.now
