use Rattle.flows.proofs.Ahead.{words_passed}
use Rattle.flows.proofs.scan_ahead.payload.Goals as goal

pub returns-in-1001 : goal.returns-in-1001
returns-in-1001 c = rw (c.ok.ensures.value, c.in-1001.is) (words_passed _ _ _ c.requires.inside c.read_words.ensures)
