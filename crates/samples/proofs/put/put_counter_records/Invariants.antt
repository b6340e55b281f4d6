use Rattle.reading.specs.Layout.{counter}
use Rattle.std.proofs.Common.{◌-◌}
use Rattle.store.proofs.Loops.{Left}
use Rattle.samples.proofs.put.put_counter_records.Given as goal

abbrev pub invariant-loop : goal.invariant-loop
invariant-loop l = Left counter l.s l.n l.pen l.at l.fn.store (l.n - l.counter) l.cur l.word l.store
