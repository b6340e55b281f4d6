use Rattle.std.proofs.Common.{rules, arith, sym}
use Rattle.reading.proofs.Words.{run_row, run_cut}
use Rattle.layout.proofs.field.words.Goals as goal

pub returns-in_err-d : goal.returns-in_err-d
returns-in_err-d g c = let e = run_cut _ _ _ c.requires.inside.inside c.in_err-d.ensures in search rules

pub load_words-requires : goal.load_words-requires
load_words-requires g c = (omega arith, (run_row _ _ _ c.requires.inside.inside c.in_ok-d.ensures).0)

pub returns : goal.returns
returns g c = rw c.load_words.ensures (sym (run_row _ _ _ c.requires.inside.inside c.in_ok-d.ensures).1)
