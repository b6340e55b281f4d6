-- Each byte's two digits follow those of the bytes before it.
use Rattle.std.proofs.Common.{◌<◌, rules, get_or}
use Rattle.std.proofs.Output.{has_written_append, has_written_of_eq}
use Rattle.std.specs.Fmt.{HasWritten}
use Rattle.printing.proofs.Digits.{written, hex_text-more}
use Rattle.printing.proofs.bytes.HexDisplay.fmt.Goals as goal

pub loop-b-preserved : goal.loop-b-preserved
loop-b-preserved g c =
    λ p.
    let bytes = c.args.self.now.0.now in
    let small : get_or bytes c.loop-b.b-index 0 < 256 = search rules in
    let before = c.loop-b.invariant p in
    let more : HasWritten g.W.Write.write_str_gives c.loop-b.f (written (get_or bytes c.loop-b.b-index 0)) c.write.new.self = search rules in
    has_written_of_eq _ _ _ _ _ (hex_text-more bytes c.loop-b.b-index (search rules) small) (has_written_append _ _ _ _ _ _ before more)
