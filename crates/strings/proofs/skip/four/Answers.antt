use Rattle.strings.proofs.Highs.{four_high}
use Rattle.strings.proofs.skip.four.Goals as goal

pub returns : goal.returns
returns c = four_high c.args.bytes.now c.from_le_bytes.ensures c.told-bytes c.fits-bytes
