use Rattle.std.proofs.Common.{◌<◌, ◌≢◌, length, arith, rules, get_or-set_other, get_or-set_same, below_more}
use Rattle.layout.proofs.Laws.{loads}
use Rattle.layout.proofs.field.load_words.Goals as goal

pub loop-i-preserved : goal.loop-i-preserved
loop-i-preserved g c = (
  search rules,
  below_more _ _
      (λ k h. let ne : k ≢ c.loop-i.i = omega arith in rw get_or-set_other (c.loop-i.invariant.1 k h))
      (let lt : c.loop-i.i < length c.loop-i.words = omega (arith, c.loop-i.invariant.0) in rw get_or-set_same c.be32.ensures),
)

pub returns : goal.returns
returns g c = loads _ _ _ _ c.loop-i.invariant.0 (λ k l. c.loop-i.invariant.1 k (omega arith))
