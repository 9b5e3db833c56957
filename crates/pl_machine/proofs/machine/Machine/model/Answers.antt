use Rattle.std.proofs.Common.{subst}
use Rattle.pl_model.specs.Checked.{IsChecked}
use Rattle.pl_machine.specs.Sound.{State}
use Rattle.pl_machine.proofs.machine.Machine.model.Goals as goal

pub returns-clause-checked : goal.returns-clause-checked
returns-clause-checked c = subst (λ (t : State). IsChecked t.model) c.self.view_is c.self.invariant.checked
