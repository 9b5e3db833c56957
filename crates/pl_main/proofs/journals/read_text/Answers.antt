use Rattle.pl_main.proofs.Replaying.{text_not_read}
use Rattle.pl_main.proofs.journals.read_text.Goals as goal

pub returns-in-Refused-clause-reads : goal.returns-in-Refused-clause-reads
returns-in-Refused-clause-reads g c = text_not_read _ _ _ _ _ _ _ (rw c.in-Refused.is at (rw c.in_ok-line.was at c.model_of.ensures.accepts)) (rw c.as_slice.ensures at c.write_text.ensures.text)
