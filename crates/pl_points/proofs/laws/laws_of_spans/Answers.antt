use Rattle.pl_points.proofs.Maximal.{maximal_spans, maximal_unique, splits, local}
use Rattle.pl_points.proofs.laws.laws_of_spans.Goals as goal

pub returns-clause-exact : goal.returns-clause-exact
returns-clause-exact c = maximal_spans

pub returns-clause-unique : goal.returns-clause-unique
returns-clause-unique c = maximal_unique

pub returns-clause-split : goal.returns-clause-split
returns-clause-split c = splits

pub returns-clause-local : goal.returns-clause-local
returns-clause-local c = local
