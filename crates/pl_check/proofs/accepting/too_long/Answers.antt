use Rattle.pl_check.proofs.Refusing.{longer_is_refused}
use Rattle.pl_check.proofs.accepting.too_long.Goals as goal

pub returns-clause-accepts : goal.returns-clause-accepts
returns-clause-accepts c = λ text longer. longer_is_refused text c.in_ok-line.line c.in_ok-line.ensures longer
