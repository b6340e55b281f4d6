use Rattle.std.proofs.Common.{rules}
use Rattle.reading.proofs.Words.{run_row, run_cut}
use Rattle.xdr.specs.Shown.{Inside}
use Rattle.layout.proofs.after.words.Goals as goal

pub returns-in_err-d-clause-numbers : goal.returns-in_err-d-clause-numbers
returns-in_err-d-clause-numbers c =
    let i : Inside c.args.s.now c.in_ok-c.c = search rules in
    let e = run_cut _ _ _ i.inside c.in_err-d.ensures in
    search rules

pub returns-clause-numbers : goal.returns-clause-numbers
returns-clause-numbers c =
    let i : Inside c.args.s.now c.in_ok-c.c = search rules in
    let e = (run_row _ _ _ i.inside c.in_ok-d.ensures).1 in
    search rules

pub returns-clause-there : goal.returns-clause-there
returns-clause-there c =
    let i : Inside c.args.s.now c.in_ok-c.c = search rules in
    (run_row _ _ _ i.inside c.in_ok-d.ensures).0
