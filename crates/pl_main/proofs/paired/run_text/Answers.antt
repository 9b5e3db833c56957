use Rattle.pl_main.proofs.Texting.{text_refused}
use Rattle.pl_main.specs.Runs.{ModelRunsAs}
use Rattle.pl_main.proofs.paired.run_text.Goals as goal

pub returns-in-Refused-clause-run : goal.returns-in-Refused-clause-run
returns-in-Refused-clause-run g c = text_refused (ModelRunsAs c.args.team c.args.turns) _ _ _ _ _ _ (rw c.in-Refused.is at (rw c.in_ok-line.was at c.model_of.ensures.accepts)) (rw c.as_slice.ensures at c.refuse.ensures.text) c.refuse.ensures.refused (rw c.as_slice.ensures at c.refuse.ensures.front) c.refuse.ensures.fails
