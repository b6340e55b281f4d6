use Rattle.std.proofs.Common.{◌≡◌, arith, sym, ap, ◌∙◌, length}
use Rattle.counters.specs.Sizes.{sizes_of}
use Rattle.counters.proofs.Passing.{all_pass, as_many}
use Rattle.counters.proofs.data.pass.Goals as goal

pub returns : goal.returns
returns c =
    let n : length c.fixed-row.result.widths.now ≡ length (sizes_of c.args.format) = sym (as_many c.fixed-row.result.widths.now) ∙ ap length c.fixed-row.ensures.fields in
    rw (n, c.fixed-row.ensures.bytes) (all_pass (sizes_of c.args.format) _ _ (omega (arith, c.fixed-row.ensures.bytes, c.requires.inside)))
