use Rattle.std.proofs.Common.{◌≡◌, true, subst}
use Rattle.pl_plan.specs.declared.repair.RepairMove.{RepairMove}
use Rattle.pl_semantics.specs.Moves.{is_proper}
use Rattle.pl_moves.proofs.Drops.{open_if, dropped_is}
use Rattle.pl_moves.proofs.application.make.Goals as goal

pub drop_goal-requires : goal.drop_goal-requires
drop_goal-requires g c = λ _. open_if c.args.board.now.state c.in-Drop.goal (subst (λ (m : RepairMove). is_proper c.args.board.now.state m ≡ true) c.in-Drop.is c.requires.proper)

pub returns-in-Drop-clause-ok : goal.returns-in-Drop-clause-ok
returns-in-Drop-clause-ok g c = rw (c.in-Drop.is, ← dropped_is c.args.board.now.state c.in-Drop.goal) c.drop_goal.ensures.ok
