use Rattle.pl_moves.proofs.Keeping.{keeps, gives}
use Rattle.pl_moves.proofs.Flags.{keeps_goals}
use Rattle.pl_moves.proofs.laws.laws_of_repairs.Goals as goal

pub returns-clause-committed : goal.returns-clause-committed
returns-clause-committed c = keeps

pub returns-clause-goals : goal.returns-clause-goals
returns-clause-goals c = keeps_goals

pub returns-clause-ids : goal.returns-clause-ids
returns-clause-ids c = gives
