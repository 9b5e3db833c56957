use Rattle.pl_bounds.proofs.Unmoved.{steady}
use Rattle.pl_bounds.proofs.laws.laws_of_the_steady.Goals as goal

pub returns : goal.returns
returns c = steady
