use Rattle.pl_detect.proofs.Bounded.{bounded_at, all_of, few_of}
use Rattle.pl_detect.proofs.laws.laws_of_demands.Goals as goal

pub returns-clause-at : goal.returns-clause-at
returns-clause-at c = λ s a whole here. (bounded_at s whole a here).each

pub returns-clause-all : goal.returns-clause-all
returns-clause-all c = λ s whole. all_of s whole

pub returns-clause-few_at : goal.returns-clause-few_at
returns-clause-few_at c = λ s a whole here. (bounded_at s whole a here).few

pub returns-clause-few : goal.returns-clause-few
returns-clause-few c = λ s whole. few_of s whole
