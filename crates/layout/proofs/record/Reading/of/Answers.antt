use Rattle.layout.proofs.Records.{all_read}
use Rattle.layout.proofs.record.Reading.of.Goals as goal

pub returns-in-Ok : goal.returns-in-Ok
returns-in-Ok g c = all_read c.in-Ok.ensures c.accepted.ensures
