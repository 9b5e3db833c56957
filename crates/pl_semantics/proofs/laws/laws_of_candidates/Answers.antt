use Rattle.pl_semantics.proofs.Sifting.{proper, changing, none_twice, at_most}
use Rattle.pl_semantics.proofs.Fairness.{fair}
use Rattle.pl_semantics.proofs.laws.laws_of_candidates.Goals as goal

pub returns-clause-proper : goal.returns-clause-proper
returns-clause-proper c = proper

pub returns-clause-changing : goal.returns-clause-changing
returns-clause-changing c = changing

pub returns-clause-none_twice : goal.returns-clause-none_twice
returns-clause-none_twice c = none_twice

pub returns-clause-few : goal.returns-clause-few
returns-clause-few c = at_most

pub returns-clause-starts : goal.returns-clause-starts
returns-clause-starts c = fair
