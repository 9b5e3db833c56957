use Rattle.pl_entry.proofs.BestLaws.{best_is}
use Rattle.pl_entry.proofs.laws.laws_of_horizon.Goals as goal

pub returns : goal.returns
returns c = record { best = best_is }
