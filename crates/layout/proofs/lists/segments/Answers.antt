use Rattle.std.proofs.Common.{rules, arith, sym, ◌∙◌, ◌-◌, ◌≡◌, ◌+◌}
use Rattle.reading.specs.Script.{word}
use Rattle.reading.specs.Cursor.{follow}
use Rattle.reading.specs.Layout.{segment}
use Rattle.reading.proofs.Fields.{field_out, run_out}
use Rattle.xdr.specs.Shown.{place}
use Rattle.layout.proofs.Laws.{more, refuses, ended, after_item, after_script}
use Rattle.layout.proofs.lists.segments.Goals as goal

pub returns-in_err-n : goal.returns-in_err-n
unfolding field_out run_out
returns-in_err-n c = search rules

pub loop-i-init : goal.loop-i-init
loop-i-init c = (after_item _ _ c.requires word c.in_ok-n.ensures, search rules)

pub returns-in_err-end : goal.returns-in_err-end
unfolding field_out run_out
returns-in_err-end c = let e = refuses (follow segment) _ (c.in_ok-n.n - c.loop-i.i) (place c.loop-i.end) (omega arith) c.in_err-end.ensures ∙ c.loop-i.invariant.1 in search rules

pub loop-i-preserved : goal.loop-i-preserved
loop-i-preserved c =
    let z : c.in_ok-n.n - (c.loop-i.i + 1) ≡ c.in_ok-n.n - c.loop-i.i - 1 = omega arith in (
      after_script _ _ c.loop-i.invariant.0 segment c.in_ok-end.ensures,
      rw z (more (follow segment) _ (c.in_ok-n.n - c.loop-i.i) (place c.loop-i.end) _ (omega arith) c.in_ok-end.ensures ∙ c.loop-i.invariant.1),
    )

pub returns : goal.returns
unfolding field_out run_out
returns c = let e = sym (ended (follow segment) _ (c.in_ok-n.n - c.loop-i.i) (place c.loop-i.end) (omega arith)) ∙ c.loop-i.invariant.1 in search rules
