use Rattle.strings.proofs.Highs.{ends_plain}
use Rattle.strings.proofs.skip.both_ends.Goals as goal

pub returns-then-block : goal.returns-then-block
returns-then-block g c = ends_plain _ _ c.requires.k_in_bounds c.requires.s_len_bound c.block.ensures c.if-block.true c.block-then-block.ensures
