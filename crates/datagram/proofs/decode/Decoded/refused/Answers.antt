use Rattle.std.proofs.Common.{rules}
use Rattle.reading.specs.Answer.{header_of, no_header}
use Rattle.flow_layouts.proofs.Zeros.{all_zero}
use Rattle.datagram.proofs.decode.Decoded.refused.Goals as goal

pub returns : goal.returns
unfolding no_header header_of
returns c =
    let e = all_zero c.default.ensures.1 in
    record { leaves = λ w. search rules }
