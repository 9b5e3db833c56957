use Rattle.std.proofs.Common.{◌≡◌, ◌≤◌, true, refl, sym, ap, subst}
use Rattle.pl_entry.specs.declared.event.Event.TheVariants as event
use Rattle.pl_machine.specs.Step.{rest_reply, after}
use Rattle.pl_machine.specs.Taking.{with_round}
use Rattle.pl_machine.specs.Sound.{State}
use Rattle.pl_machine.proofs.machine.Machine.rest_for.Goals as goal

pub append-requires-clause-answers : goal.append-requires-clause-answers
append-requires-clause-answers c = ap rest_reply (sym c.requires.reason)

pub append-requires-clause-leaves : goal.append-requires-clause-leaves
append-requires-clause-leaves c = subst (λ (t : State). with_round (record c.self.inside.round { rested = true }) t.world ≡ after t.world event.Rest) c.self.view_is refl

pub append-requires-clause-turn : goal.append-requires-clause-turn
append-requires-clause-turn c = subst (λ (t : State). c.self.inside.round.turn ≤ t.world.options.turns) c.self.view_is c.self.invariant.turn
