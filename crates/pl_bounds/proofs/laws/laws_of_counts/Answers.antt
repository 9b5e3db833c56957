use Rattle.pl_bounds.proofs.Counted.{held_are_few}
use Rattle.pl_bounds.proofs.laws.laws_of_counts.Goals as goal

pub returns : goal.returns
returns c = held_are_few
