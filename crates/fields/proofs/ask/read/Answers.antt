use Rattle.std.proofs.Common.{rules}
use Rattle.layout.specs.Shown.{mode_of}
use Rattle.fields.proofs.ask.read.Goals as goal

pub returns-in-Err : goal.returns-in-Err
returns-in-Err g c = let e = (c.refused.ensures c.args.s.now (mode_of c.args.mode)).is in search rules
