use Rattle.pl_semantics.proofs.Standing.{ordered, members}
use Rattle.pl_semantics.proofs.laws.laws_of_conflicts.Goals as goal

pub returns-clause-ordered : goal.returns-clause-ordered
returns-clause-ordered c = ordered

pub returns-clause-members : goal.returns-clause-members
returns-clause-members c = members
