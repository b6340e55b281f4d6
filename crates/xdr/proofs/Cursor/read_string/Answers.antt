use Rattle.xdr.proofs.Laws.{string_got, string_bad}
use Rattle.xdr.proofs.Cursor.read_string.Goals as goal

pub returns-then-good-text : goal.returns-then-good-text
returns-then-good-text c = rw c.ill_formed.ensures (string_bad _ _ c.in_ok-text.ensures c.well_formed-good.ensures c.if-good-text.true)

pub returns : goal.returns
returns c = string_got _ _ c.in_ok-text.ensures c.well_formed-good.ensures c.if-good-text.false
