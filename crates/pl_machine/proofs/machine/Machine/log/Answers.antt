use Rattle.std.proofs.Common.{◌≡◌, ◌∙◌, ap, subst}
use Rattle.pl_machine.specs.Legal.{Legal, world_of, IsHistory}
use Rattle.pl_machine.specs.Sound.{State}
use Rattle.pl_machine.proofs.Runs.{sound_history}
use Rattle.pl_machine.proofs.machine.Machine.log.Goals as goal

pub returns-clause-legal : goal.returns-clause-legal
returns-clause-legal c = subst (λ (t : State). Legal t.model t.log) c.self.view_is c.self.invariant.legal

pub returns-clause-others : goal.returns-clause-others
returns-clause-others c = subst (λ (t : State). t.world ≡ record (world_of t.model t.log) { state = t.world.state }) c.self.view_is c.self.invariant.others

pub returns-clause-history : goal.returns-clause-history
returns-clause-history c = λ unspoiled. subst (λ (t : State). IsHistory t.model t.log t.world) c.self.view_is (sound_history c.self.invariant (ap (λ (t : State). t.spoiled) c.self.view_is ∙ unspoiled))
