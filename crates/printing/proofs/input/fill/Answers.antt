-- What a read gives follows what stands in the buffer, and goes from the reader.
use Rattle.std.proofs.Common.{rules, subst}
use Rattle.std.specs.Io.KnownBytes.{Consumes}
use Rattle.std.proofs.KnownBytes.{Consumes-trans}
use Rattle.printing.proofs.Filled.{take-filled}
use Rattle.printing.proofs.input.fill.Goals as goal

pub loop-done-preserved : goal.loop-done-preserved
loop-done-preserved g c =
    let joined = take-filled _ _ _ _ _ c.loop-done.invariant.1 c.in_ok-n.ensures.bound.0 in
    (search rules, search rules, search rules, subst (Consumes _ _) joined (Consumes-trans _ _ _ _ _ c.loop-done.invariant.3 c.in_ok-n.ensures.bytes.0))
