use Rattle.pl_semantics.proofs.Spreading.{tried, no_other, few}
use Rattle.pl_semantics.proofs.laws.laws_of_spread.Goals as goal

pub returns-clause-tried : goal.returns-clause-tried
returns-clause-tried c = tried

pub returns-clause-no_other : goal.returns-clause-no_other
returns-clause-no_other c = no_other

pub returns-clause-few : goal.returns-clause-few
returns-clause-few c = few
