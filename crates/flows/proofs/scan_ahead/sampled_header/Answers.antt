use Rattle.std.proofs.Common.{rules}
use Rattle.flows.proofs.Ahead.{sampled}
use Rattle.flows.proofs.scan_ahead.sampled_header.Goals as goal

pub returns : goal.returns
returns c = rw (c.padded-padded.ensures, c.be32-length.ensures) (sampled _ _ (search rules) (search rules) (search rules) c.requires.s_len_bound (search rules))
