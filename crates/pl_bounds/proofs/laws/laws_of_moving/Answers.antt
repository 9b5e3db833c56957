use Rattle.pl_bounds.proofs.Moving.{demands_moved}
use Rattle.pl_bounds.proofs.laws.laws_of_moving.Goals as goal

pub returns : goal.returns
returns c = λ s gone more a from to here there row none low. demands_moved from to s gone more a here there row none low
