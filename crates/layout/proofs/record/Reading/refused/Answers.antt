use Rattle.std.proofs.Common.{rules}
use Rattle.layout.proofs.Records.{all_ended}
use Rattle.layout.proofs.record.Reading.refused.Goals as goal

pub returns : goal.returns
returns g c = λ s mode. all_ended (rw c.ended.ensures.outcome (search rules)) (c.ended.ensures.zeros mode)
