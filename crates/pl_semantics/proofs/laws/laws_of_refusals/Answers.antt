use Rattle.pl_semantics.proofs.Refusing.{may, not_refused}
use Rattle.pl_semantics.proofs.Causes.{refused, is_refused}
use Rattle.pl_semantics.proofs.laws.laws_of_refusals.Goals as goal

pub returns-clause-refused : goal.returns-clause-refused
returns-clause-refused c = λ s m rising r. (refused s m rising r, is_refused s m rising r)

pub returns-clause-not_refused : goal.returns-clause-not_refused
returns-clause-not_refused c = λ s m. (may s m, not_refused s m)
