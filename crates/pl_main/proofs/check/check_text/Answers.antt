use Rattle.pl_main.proofs.Checking.{text_fails, text_passes}
use Rattle.pl_main.proofs.check.check_text.Goals as goal

pub returns-in-Refused-clause-text : goal.returns-in-Refused-clause-text
returns-in-Refused-clause-text g c = text_fails _ _ _ _ _ (rw c.in-Refused.is at (rw c.in_ok-line.was at c.model_of.ensures.accepts)) (rw c.as_slice.ensures at c.refuse.ensures.text) c.refuse.ensures.refused (rw c.as_slice.ensures at c.refuse.ensures.front) c.refuse.ensures.fails

pub returns-clause-text : goal.returns-clause-text
returns-clause-text g c = text_passes _ _ _ _ _ _ _ (rw c.in-Model.is at (rw c.in_ok-line.was at c.model_of.ensures.accepts)) c.write_ok.ensures.text c.write_ok.ensures.done c.write_ok.ensures.front c.write_ok.ensures.silent c.write_ok.ensures.cause
