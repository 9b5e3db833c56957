use Rattle.std.proofs.Common.{◌≤◌, subst}
use Rattle.pl_machine.specs.Sound.{State}
use Rattle.pl_machine.proofs.machine.Machine.options.Goals as goal

pub returns-clause-turns : goal.returns-clause-turns
returns-clause-turns c = subst (λ (t : State). t.world.turn ≤ t.world.options.turns) c.self.view_is c.self.invariant.turn
