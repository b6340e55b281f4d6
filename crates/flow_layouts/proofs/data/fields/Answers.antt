-- Made by layouts/make from layouts/table.
use Rattle.layout.proofs.Passing.{after_row}
use Rattle.flow_layouts.proofs.data.fields.Goals as goal

pub pass-requires-in-1002-2 : goal.pass-requires-in-1002-2
pass-requires-in-1002-2 c = after_row _ _ _ c.requires.inside c.in_ok-c-in-1002.ensures

pub pass-requires-in-1003-2 : goal.pass-requires-in-1003-2
pass-requires-in-1003-2 c = after_row _ _ _ c.requires.inside c.in_ok-c-in-1003.ensures

pub pass-requires-in-1003-3 : goal.pass-requires-in-1003-3
pass-requires-in-1003-3 c = after_row _ _ _ (after_row _ _ _ c.requires.inside c.in_ok-c-in-1003.ensures) c.in_ok-c-in-1003-2.ensures

pub pass-requires-in-1003-4 : goal.pass-requires-in-1003-4
pass-requires-in-1003-4 c = after_row _ _ _ (after_row _ _ _ (after_row _ _ _ c.requires.inside c.in_ok-c-in-1003.ensures) c.in_ok-c-in-1003-2.ensures) c.in_ok-c-in-1003-3.ensures

pub pass-requires-in-1003-5 : goal.pass-requires-in-1003-5
pass-requires-in-1003-5 c = after_row _ _ _ (after_row _ _ _ (after_row _ _ _ (after_row _ _ _ c.requires.inside c.in_ok-c-in-1003.ensures) c.in_ok-c-in-1003-2.ensures) c.in_ok-c-in-1003-3.ensures) c.in_ok-c-in-1003-4.ensures

pub pass-requires-in-1006-2 : goal.pass-requires-in-1006-2
pass-requires-in-1006-2 c = after_row _ _ _ c.requires.inside c.in_ok-c-in-1006.ensures

pub pass-requires-in-1006-3 : goal.pass-requires-in-1006-3
pass-requires-in-1006-3 c = after_row _ _ _ (after_row _ _ _ c.requires.inside c.in_ok-c-in-1006.ensures) c.in_ok-c-in-1006-2.ensures

pub pass-requires-in-1007-2 : goal.pass-requires-in-1007-2
pass-requires-in-1007-2 c = after_row _ _ _ c.requires.inside c.in_ok-c-in-1007.ensures

pub pass-requires-in-1010-2 : goal.pass-requires-in-1010-2
pass-requires-in-1010-2 c = after_row _ _ _ c.requires.inside c.in_ok-c-in-1010.ensures
