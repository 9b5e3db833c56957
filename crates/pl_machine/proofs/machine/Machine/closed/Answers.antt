use Rattle.std.proofs.Common.{◌≡◌, false, subst}
use Rattle.pl_machine.specs.Sound.{State}
use Rattle.pl_machine.proofs.Going.{sound_goes}
use Rattle.pl_machine.proofs.machine.Machine.closed.Goals as goal

pub returns-clause-going : goal.returns-clause-going
returns-clause-going c = subst (λ (t : State). t.world.closed ≡ false → t.world.done ≡ false) c.self.view_is (sound_goes c.self.invariant)
