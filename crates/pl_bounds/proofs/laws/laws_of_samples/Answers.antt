use Rattle.pl_bounds.proofs.Rising.{rises_few}
use Rattle.pl_bounds.proofs.laws.laws_of_samples.Goals as goal

pub returns : goal.returns
returns c = rises_few
