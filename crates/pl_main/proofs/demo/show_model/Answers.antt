use Rattle.pl_main.proofs.Showing.{model_shown}
use Rattle.pl_main.proofs.demo.show_model.Goals as goal

pub returns-clause-shows : goal.returns-clause-shows
returns-clause-shows g c = model_shown _ _ _ _ _ _ c.in_ok-machine.machine _ _ c.in_ok-machine.ensures.plays c.as_slice.ensures.value c.in_ok-line.ensures c.in_ok-put.ensures.whole
