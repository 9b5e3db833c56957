use Rattle.pl_memo.proofs.Fewest.{fewest_by_place}
use Rattle.pl_memo.proofs.Twins.{answered}
use Rattle.pl_memo.proofs.laws.laws_of_the_fewest.Goals as goal

pub returns-clause-place : goal.returns-clause-place
returns-clause-place c = fewest_by_place

pub returns-clause-alike : goal.returns-clause-alike
returns-clause-alike c = answered
