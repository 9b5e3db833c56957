use Rattle.pl_prefs.proofs.Chosen.{most_of_none}
use Rattle.pl_prefs.proofs.choosing.greatest.Goals as goal

pub loop-number-init : goal.loop-number-init
loop-number-init c = most_of_none c.args.gains.now
