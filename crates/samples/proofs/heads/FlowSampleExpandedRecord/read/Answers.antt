-- Made by layouts/make from layouts/table.
use Rattle.std.proofs.Common.{rules, ℕ, ◌≡◌, ap, ◌∙◌, List, length, map}
use Rattle.reading.specs.Script.{number}
use Rattle.reading.specs.Cursor.{got}
use Rattle.reading.specs.Layout.{samples}
use Rattle.reading.specs.Answer.{layout_of}
use Rattle.xdr.specs.Shown.{place}
use Rattle.layout.proofs.Laws.{spelled}
use Rattle.samples.proofs.heads.FlowSampleExpandedRecord.read.Goals as goal

pub returns : goal.returns
unfolding layout_of samples
returns c =
    let l : length c.in_ok-row.row ≡ 11 = search rules in
    ap (λ (w : List ℕ). got (map number w) (place c.in_ok-row.c)) (spelled 11 c.in_ok-row.row l) ∙ c.in_ok-row.ensures
