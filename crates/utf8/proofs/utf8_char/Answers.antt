-- Each answer is a way through the rows. Assumes nothing.
use Rattle.std.proofs.Common.{rules, refl}
use Rattle.reading.proofs.Utf8.{both, all_three}
use Rattle.utf8.proofs.Places.{width_none, taken, left}
use Rattle.utf8.proofs.Rows.{width_rows, all_four}
use Rattle.utf8.proofs.utf8_char.Goals as goal
use Rattle.utf8.proofs.utf8_char.Goals.{then-among-tail-2-via-then-among-tail-2, then-among-tail-2-via-else-among-tail-2+then-among-tail-3, then-among-tail-2-via-else-among-tail-2+else-among-tail-3+then-among-tail-4, then-among-tail-2-via-else-among-tail-2+else-among-tail-3+else-among-tail-4+then-among-tail-5}
use Rattle.utf8.proofs.utf8_char.Goals.{then-among-tail-6-via-then-among-tail-6, then-among-tail-6-via-else-among-tail-6+then-among-tail-7, then-among-tail-6-via-else-among-tail-6+else-among-tail-7+then-among-tail-8}

pub returns-in_default : goal.returns-in_default
returns-in_default c = search (width_none, rules)

pub returns-then-among : goal.returns-then-among
returns-then-among c = width_rows c.args.s.now c.args.at c.in-Some.ensures.lookup.3 refl refl refl (taken _ _ c.among.ensures c.if-among.true refl)

pub returns-then-among-tail : goal.returns-then-among-tail
returns-then-among-tail c =
    width_rows c.args.s.now c.args.at c.in-Some.ensures.lookup.3 c.behind-b.ensures refl refl
    (left _ _ c.among.ensures c.if-among.false
    (taken _ _ (both c.among-2.ensures c.tail.ensures) c.if-among-tail.true refl))

pub returns-then-among-tail-2 : goal.returns-then-among-tail-2
returns-then-among-tail-2 c =
    width_rows c.args.s.now c.args.at c.in-Some.ensures.lookup.3 c.behind-b.ensures c.behind-c.ensures refl
    (left _ _ c.among.ensures c.if-among.false
    (left _ _ (both c.among-2.ensures c.tail.ensures) c.if-among-tail.false
    (elim c.then-among-tail-2.branch [
      | then-among-tail-2-via-then-among-tail-2 w ↦ taken _ _ (all_three c.among-3.ensures c.among-4.ensures c.tail-2.ensures) w.if-among-tail-2.true refl
      | then-among-tail-2-via-else-among-tail-2+then-among-tail-3 w ↦
          left _ _ (all_three c.among-3.ensures c.among-4.ensures c.tail-2.ensures) w.if-among-tail-2.false
          (taken _ _ (all_three w.among-else-among-tail-2.ensures w.tail-else-among-tail-2.ensures w.tail-else-among-tail-2-2.ensures) w.if-among-tail-3.true refl)
      | then-among-tail-2-via-else-among-tail-2+else-among-tail-3+then-among-tail-4 w ↦
          left _ _ (all_three c.among-3.ensures c.among-4.ensures c.tail-2.ensures) w.if-among-tail-2.false
          (left _ _ (all_three w.among-else-among-tail-2.ensures w.tail-else-among-tail-2.ensures w.tail-else-among-tail-2-2.ensures) w.if-among-tail-3.false
          (taken _ _ (all_three w.among-else-among-tail-3.ensures w.among-else-among-tail-3-2.ensures w.tail-else-among-tail-3.ensures) w.if-among-tail-4.true refl))
      | then-among-tail-2-via-else-among-tail-2+else-among-tail-3+else-among-tail-4+then-among-tail-5 w ↦
          left _ _ (all_three c.among-3.ensures c.among-4.ensures c.tail-2.ensures) w.if-among-tail-2.false
          (left _ _ (all_three w.among-else-among-tail-2.ensures w.tail-else-among-tail-2.ensures w.tail-else-among-tail-2-2.ensures) w.if-among-tail-3.false
          (left _ _ (all_three w.among-else-among-tail-3.ensures w.among-else-among-tail-3-2.ensures w.tail-else-among-tail-3.ensures) w.if-among-tail-4.false
          (taken _ _ (all_three w.among-else-among-tail-4.ensures w.tail-else-among-tail-4.ensures w.tail-else-among-tail-4-2.ensures) w.if-among-tail-5.true refl)))
    ])))

pub returns-then-among-tail-6 : goal.returns-then-among-tail-6
returns-then-among-tail-6 c =
    width_rows c.args.s.now c.args.at c.in-Some.ensures.lookup.3 c.behind-b.ensures c.behind-c.ensures c.behind-d.ensures
    (left _ _ c.among.ensures c.if-among.false
    (left _ _ (both c.among-2.ensures c.tail.ensures) c.if-among-tail.false
    (left _ _ (all_three c.among-3.ensures c.among-4.ensures c.tail-2.ensures) c.if-among-tail-2.false
    (left _ _ (all_three c.among-else-among-tail-2.ensures c.tail-else-among-tail-2.ensures c.tail-else-among-tail-2-2.ensures) c.if-among-tail-3.false
    (left _ _ (all_three c.among-else-among-tail-3.ensures c.among-else-among-tail-3-2.ensures c.tail-else-among-tail-3.ensures) c.if-among-tail-4.false
    (left _ _ (all_three c.among-else-among-tail-4.ensures c.tail-else-among-tail-4.ensures c.tail-else-among-tail-4-2.ensures) c.if-among-tail-5.false
    (elim c.then-among-tail-6.branch [
      | then-among-tail-6-via-then-among-tail-6 w ↦
          taken _ _ (all_four c.among-5.ensures c.among-6.ensures c.tail-3.ensures c.tail-4.ensures) w.if-among-tail-6.true refl
      | then-among-tail-6-via-else-among-tail-6+then-among-tail-7 w ↦
          left _ _ (all_four c.among-5.ensures c.among-6.ensures c.tail-3.ensures c.tail-4.ensures) w.if-among-tail-6.false
          (taken _ _ (all_four w.among-else-among-tail-6.ensures w.tail-else-among-tail-6.ensures w.tail-else-among-tail-6-2.ensures w.tail-else-among-tail-6-3.ensures) w.if-among-tail-7.true refl)
      | then-among-tail-6-via-else-among-tail-6+else-among-tail-7+then-among-tail-8 w ↦
          left _ _ (all_four c.among-5.ensures c.among-6.ensures c.tail-3.ensures c.tail-4.ensures) w.if-among-tail-6.false
          (left _ _ (all_four w.among-else-among-tail-6.ensures w.tail-else-among-tail-6.ensures w.tail-else-among-tail-6-2.ensures w.tail-else-among-tail-6-3.ensures) w.if-among-tail-7.false
          (taken _ _ (all_four w.among-else-among-tail-7.ensures w.among-else-among-tail-7-2.ensures w.tail-else-among-tail-7.ensures w.tail-else-among-tail-7-2.ensures) w.if-among-tail-8.true refl))
    ])))))))

pub returns : goal.returns
returns c =
    width_rows c.args.s.now c.args.at c.in-Some.ensures.lookup.3 c.behind-b.ensures c.behind-c.ensures c.behind-d.ensures
    (left _ _ c.among.ensures c.if-among.false
    (left _ _ (both c.among-2.ensures c.tail.ensures) c.if-among-tail.false
    (left _ _ (all_three c.among-3.ensures c.among-4.ensures c.tail-2.ensures) c.if-among-tail-2.false
    (left _ _ (all_three c.among-else-among-tail-2.ensures c.tail-else-among-tail-2.ensures c.tail-else-among-tail-2-2.ensures) c.if-among-tail-3.false
    (left _ _ (all_three c.among-else-among-tail-3.ensures c.among-else-among-tail-3-2.ensures c.tail-else-among-tail-3.ensures) c.if-among-tail-4.false
    (left _ _ (all_three c.among-else-among-tail-4.ensures c.tail-else-among-tail-4.ensures c.tail-else-among-tail-4-2.ensures) c.if-among-tail-5.false
    (left _ _ (all_four c.among-5.ensures c.among-6.ensures c.tail-3.ensures c.tail-4.ensures) c.if-among-tail-6.false
    (left _ _ (all_four c.among-else-among-tail-6.ensures c.tail-else-among-tail-6.ensures c.tail-else-among-tail-6-2.ensures c.tail-else-among-tail-6-3.ensures) c.if-among-tail-7.false
    (left _ _ (all_four c.among-else-among-tail-7.ensures c.among-else-among-tail-7-2.ensures c.tail-else-among-tail-7.ensures c.tail-else-among-tail-7-2.ensures) c.if-among-tail-8.false refl)))))))))
