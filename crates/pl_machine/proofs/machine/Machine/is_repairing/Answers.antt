use Rattle.std.proofs.Common.{◌≤◌, subst}
use Rattle.pl_machine.specs.Sound.{State}
use Rattle.pl_machine.proofs.machine.Machine.is_repairing.Goals as goal

pub returns-then-not-self-clause-turns : goal.returns-then-not-self-clause-turns
returns-then-not-self-clause-turns c = subst (λ (t : State). t.world.turn ≤ t.world.options.turns) c.self.view_is c.self.invariant.turn

pub returns-else-not-self-clause-turns : goal.returns-else-not-self-clause-turns
returns-else-not-self-clause-turns c = subst (λ (t : State). t.world.turn ≤ t.world.options.turns) c.self.view_is c.self.invariant.turn
