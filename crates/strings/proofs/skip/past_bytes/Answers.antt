use Rattle.std.proofs.Common.{leb, not, drop, rules, tests, arith, length-drop, ◌∙◌}
use lib.Seq.{take_all}
use Rattle.std.proofs.lemmas.Iterator.{YieldsList-from_slice}
use Rattle.std.proofs.lemmas.Iterator.Search.{position_from_yields_List}
use Rattle.strings.proofs.Highs.{first_there, first_nowhere}
use Rattle.strings.proofs.skip.past_bytes.Goals as goal

pub returns-in-Some : goal.returns-in-Some
returns-in-Some c =
    let t = drop c.args.at c.args.s.now in
    let l = length-drop c.args.at c.args.s.now in
    let e = position_from_yields_List (λ byte. not (leb byte 0x7f)) _ _ c.position.result c.position.ensures.ran (YieldsList-from_slice t (c.iter.ensures.rest ∙ take_all _ _ (omega arith))) (λ x b q k. search (rules, tests)) in
    omega (arith, first_there t e c.in-Some.is)

pub returns-in-None : goal.returns-in-None
returns-in-None c =
    let t = drop c.args.at c.args.s.now in
    let l = length-drop c.args.at c.args.s.now in
    let e = position_from_yields_List (λ byte. not (leb byte 0x7f)) _ _ c.position.result c.position.ensures.ran (YieldsList-from_slice t (c.iter.ensures.rest ∙ take_all _ _ (omega arith))) (λ x b q k. search (rules, tests)) in
    omega (arith, first_nowhere t e c.in-None.is)
