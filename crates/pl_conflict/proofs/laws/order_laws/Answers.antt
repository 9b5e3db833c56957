use Rattle.pl_conflict.proofs.OrderLaws.{conflict_total, conflict_exact, conflict_unique}
use Rattle.pl_conflict.proofs.laws.order_laws.Goals as goal

pub returns-clause-total : goal.returns-clause-total
returns-clause-total c = conflict_total

pub returns-clause-exact : goal.returns-clause-exact
returns-clause-exact c = conflict_exact

pub returns-clause-unique : goal.returns-clause-unique
returns-clause-unique c = conflict_unique conflict_exact
