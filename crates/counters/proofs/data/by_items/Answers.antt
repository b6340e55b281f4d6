use Rattle.std.proofs.Common.{rules, sym, ◌∙◌, [], ◌∷◌}
use Rattle.std.proofs.lemmas.List.{at_drop_more, at_drop_all}
use Rattle.reading.specs.Layout.{sized, widths}
use Rattle.reading.proofs.Fields.{fields_out}
use Rattle.xdr.specs.Shown.{place}
use Rattle.layout.specs.Passing.{passing}
use Rattle.layout.proofs.Passing.{pass_on, pass_stop, after_row}
use Rattle.counters.specs.declared.data.Width.TheVariants.{U32}
use Rattle.counters.specs.Sizes.{sizes}
use Rattle.counters.proofs.Passing.{width_passes}
use Rattle.counters.proofs.data.by_items.Goals as goal

pub returns-in_err-end : goal.returns-in_err-end
returns-in_err-end c =
    let h = rw c.octets.ensures at c.in_err-end.ensures in
    let e = pass_stop (sized _ ∷ []) _ _ _ (h ∙ width_passes _ _ _) ∙ sym (at_drop_more (λ l. passing (widths (sizes l)) c.args.s.now (place c.loop-width.end)) c.args.row.now c.loop-width.width-index U32 c.loop-width-test.true) ∙ c.loop-width.invariant.1 in
    search rules

pub loop-width-preserved : goal.loop-width-preserved
loop-width-preserved c =
    let h = rw c.octets.ensures at c.in_ok-end.ensures in (
      after_row (sized _ ∷ []) _ _ c.loop-width.invariant.0 (h ∙ width_passes _ _ _),
      pass_on (sized _ ∷ []) _ _ _ (h ∙ width_passes _ _ _) ∙ sym (at_drop_more (λ l. passing (widths (sizes l)) c.args.s.now (place c.loop-width.end)) c.args.row.now c.loop-width.width-index U32 c.loop-width-test.true) ∙ c.loop-width.invariant.1,
    )

pub returns : goal.returns
unfolding fields_out
returns c = sym (at_drop_all (λ l. passing (widths (sizes l)) c.args.s.now (place c.loop-width.end)) c.args.row.now c.loop-width.width-index c.loop-width-test.false) ∙ c.loop-width.invariant.1
