use Rattle.std.proofs.Common.{ℕ, ◌≡◌, ◌<◌, ◌+◌, ◌*◌, length, get_or}
use Rattle.reading.specs.Bytes.{be4}
use Rattle.layout.proofs.field.load_words.Given as goal

abbrev pub invariant-loop-i : goal.invariant-loop-i
invariant-loop-i g l = (length l.words ≡ g.row.N) × ((k : ℕ) → k < l.i → get_or l.words k 0 ≡ be4 l.s (l.at + 4 * k))
