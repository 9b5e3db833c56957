use Rattle.pl_conflict.proofs.Sorting.{ordered-sorted, has-sorted, sorted_alike, sorted_itself}
use Rattle.pl_conflict.proofs.laws.sorting_laws.Goals as goal

pub returns-clause-ordered : goal.returns-clause-ordered
returns-clause-ordered c = ordered-sorted

pub returns-clause-members : goal.returns-clause-members
returns-clause-members c = has-sorted

pub returns-clause-same : goal.returns-clause-same
returns-clause-same c = sorted_alike

pub returns-clause-itself : goal.returns-clause-itself
returns-clause-itself c = sorted_itself
