use Rattle.layout.specs.Shown.{mode_of}
use Rattle.layout.proofs.Records.{all_handed_on}
use Rattle.layout.proofs.record.Reading.after.Goals as goal

pub returns-in-Err : goal.returns-in-Err
returns-in-Err g c = all_handed_on c.in-Err.is c.ended.ensures.outcome (c.ended.ensures.zeros (mode_of c.args.mode))
