use Rattle.pl_laws.proofs.Budgets.{bounded}
use Rattle.pl_laws.proofs.PairBudgets.{pair_bounded, chosen_of_executive}
use Rattle.pl_laws.proofs.lengths.laws_of_length.Goals as goal

pub returns : goal.returns
returns c = record { one_thread = bounded; pair = pair_bounded; chosen = chosen_of_executive }
