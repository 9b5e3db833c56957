use Rattle.pl_renumbering.proofs.Renumbering.{proper_too, refusal_too, applied_too, ahead_too, left_too}
use Rattle.pl_renumbering.proofs.laws.laws_of_moves.Goals as goal

pub returns-clause-proper : goal.returns-clause-proper
returns-clause-proper c = proper_too

pub returns-clause-refused : goal.returns-clause-refused
returns-clause-refused c = refusal_too

pub returns-clause-made : goal.returns-clause-made
returns-clause-made c = applied_too

pub returns-clause-ahead : goal.returns-clause-ahead
returns-clause-ahead c = ahead_too

pub returns-clause-left : goal.returns-clause-left
returns-clause-left c = left_too
