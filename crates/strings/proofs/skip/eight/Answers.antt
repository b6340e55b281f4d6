use Rattle.strings.proofs.Highs.{eight_high}
use Rattle.strings.proofs.skip.eight.Goals as goal

pub returns : goal.returns
returns c = eight_high c.args.bytes.now c.from_le_bytes.ensures c.told-bytes c.fits-bytes
