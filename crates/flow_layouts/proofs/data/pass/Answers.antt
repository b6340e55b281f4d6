use Rattle.std.proofs.Common.{sym, ap, ◌∙◌}
use Rattle.reading.specs.Script.{Script}
use Rattle.reading.specs.Cursor.{follow}
use Rattle.xdr.specs.Shown.{place}
use Rattle.layout.specs.Shown.{mode_of}
use Rattle.layout.proofs.Passing.{passing_is}
use Rattle.flow_layouts.proofs.Formats.{flow_opened}
use Rattle.flow_layouts.proofs.data.pass.Goals as goal

pub returns : goal.returns
returns c =
    c.fields.ensures
    ∙ sym (passing_is _ c.args.s.now (place c.args.c))
    ∙ ap (λ (x : Script). follow x c.args.s.now (place c.args.c)) (sym (flow_opened (mode_of c.args.mode) c.args.format c.requires.no_aggregation))
