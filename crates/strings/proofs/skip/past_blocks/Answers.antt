use Rattle.std.proofs.Common.{sym, drop, ◌∙◌, ◌+◌, ◌≤◌, arith}
use borrow.Author.Tests.{leb-true}
use Rattle.reading.proofs.Utf8.{plain}
use Rattle.utf8.proofs.Places.{plain_past, plain_room}
use Rattle.strings.proofs.Whole.{blocks_on, blocks_none}
use Rattle.strings.proofs.skip.past_blocks.Goals as goal

pub loop-i-preserved : goal.loop-i-preserved
loop-i-preserved g c =
    let s = c.args.s.now in
    let i = c.loop-i.i in
    let h : g.row.N ≤ plain (drop i s) = leb-true g.row.N (plain (drop i s)) (sym c.block.ensures ∙ c.if-block.true) in
    (omega arith, omega (arith, blocks_on g.row.N (plain (drop i s)) (plain (drop (i + g.row.N) s)) c.requires.n_nonzero (plain_past s i g.row.N h)))

pub returns-after-loop-i : goal.returns-after-loop-i
returns-after-loop-i g c = omega (arith, blocks_none g.row.N (plain (drop c.loop-i.i c.args.s.now)) (omega (arith, plain_room c.args.s.now c.loop-i.i)))
