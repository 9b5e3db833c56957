use Rattle.std.proofs.Common.{◌≡◌, ◌≤◌, true, refl, subst}
use Rattle.pl_entry.specs.declared.event.Event.TheVariants as event
use Rattle.pl_machine.specs.Step.{after}
use Rattle.pl_machine.specs.Taking.{with_round}
use Rattle.pl_machine.specs.Sound.{State}
use Rattle.pl_machine.proofs.Closes.{sent_at_close}
use Rattle.pl_machine.proofs.machine.Machine.close.Goals as goal

pub append-requires-clause-leaves : goal.append-requires-clause-leaves
append-requires-clause-leaves c = subst (λ (t : State). with_round (record c.self.inside.round { closed = true }) t.world ≡ after t.world event.Close) c.self.view_is refl

pub append-requires-clause-turn : goal.append-requires-clause-turn
append-requires-clause-turn c = subst (λ (t : State). c.self.inside.round.turn ≤ t.world.options.turns) c.self.view_is c.self.invariant.turn

pub returns-clause-sent : goal.returns-clause-sent
returns-clause-sent c = sent_at_close c.args.self.now _ _ c.append.ensures
