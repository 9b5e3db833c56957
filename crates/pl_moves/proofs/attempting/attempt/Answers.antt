use Rattle.std.proofs.Common.{◌≡◌, true, subst}
use Rattle.pl_plan.specs.declared.repair.RepairMove.{RepairMove}
use Rattle.pl_semantics.specs.Moves.{is_proper}
use Rattle.pl_moves.proofs.attempting.attempt.Goals as goal

pub attempt_drop-requires-clause-proper : goal.attempt_drop-requires-clause-proper
attempt_drop-requires-clause-proper g c = subst (λ (m : RepairMove). is_proper c.args.board.now.state m ≡ true) c.in-Drop.is c.requires.allowed.proper

pub returns-in-Drop-clause-attempted : goal.returns-in-Drop-clause-attempted
returns-in-Drop-clause-attempted g c = rw c.in-Drop.is c.attempt_drop.ensures.attempted
