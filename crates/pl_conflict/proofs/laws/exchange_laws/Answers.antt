use Rattle.pl_conflict.proofs.Sorting.{ordered-exchanged, has-exchanged, exchanged_sorted}
use Rattle.pl_conflict.proofs.laws.exchange_laws.Goals as goal

pub returns-clause-ordered : goal.returns-clause-ordered
returns-clause-ordered c = ordered-exchanged

pub returns-clause-members : goal.returns-clause-members
returns-clause-members c = has-exchanged

pub returns-clause-mended : goal.returns-clause-mended
returns-clause-mended c = exchanged_sorted
