use Rattle.std.proofs.Common.{◌≡◌, ◌≤◌, ◌+◌, ◌∙◌, arith, refl, sym, ap, subst}
use Rattle.pl_machine.specs.Step.{after_fix}
use Rattle.pl_machine.specs.Taking.{with_round}
use Rattle.pl_machine.specs.Sound.{State}
use Rattle.pl_machine.proofs.Handed.{turn_left, refused_fix}
use Rattle.pl_machine.proofs.machine.Machine.refuse_fix.Goals as goal

pub overflow_add-round : goal.overflow_add-round
overflow_add-round c = omega (arith, c.self.invariant.turn, c.self.invariant.limits.turns.1)

pub append-requires-clause-leaves : goal.append-requires-clause-leaves
append-requires-clause-leaves c =
    let m = c.args.repair in
    subst (λ (t : State). with_round (record c.self.inside.round { turn = c.self.inside.round.turn + 1 }) t.world ≡ record t.world { turn = t.world.turn + 1 }) c.self.view_is refl
    ∙ sym (refused_fix c.args.self.now.world m c.args.refusal c.requires.other) ∙ ap (after_fix c.args.self.now.world m) (sym c.requires.refusal)

pub append-requires-clause-turn : goal.append-requires-clause-turn
append-requires-clause-turn c = subst (λ (t : State). t.world.turn + 1 ≤ c.args.self.now.world.options.turns → c.self.inside.round.turn + 1 ≤ c.args.self.now.world.options.turns) c.self.view_is (λ le. le) (turn_left c.args.self.now.world c.args.conflict c.args.repair c.requires.open.enabled)
