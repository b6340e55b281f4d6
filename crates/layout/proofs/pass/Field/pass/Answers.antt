use Rattle.layout.proofs.Passing.{passed_words}
use Rattle.layout.proofs.pass.Field.pass.Goals as goal

pub returns-in-Words : goal.returns-in-Words
returns-in-Words c = rw c.in-Words.is (passed_words _ _ _ _ c.requires c.read_words.ensures)
