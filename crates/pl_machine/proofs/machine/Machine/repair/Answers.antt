use Rattle.std.proofs.Common.{◌≡◌, ◌≤◌, ◌+◌, ◌∙◌, false, arith, refl, sym, ap, subst}
use Rattle.pl_semantics.specs.Moves.{applied}
use Rattle.pl_entry.specs.declared.reply.Reply.TheVariants as reply
use Rattle.pl_machine.specs.Step.{after_fix}
use Rattle.pl_machine.specs.Taking.{with_round, with_state}
use Rattle.pl_machine.specs.Sound.{State}
use Rattle.pl_machine.proofs.Handed.{turn_left}
use Rattle.pl_machine.proofs.machine.Machine.repair.Goals as goal

pub repaired-round-requires : goal.repaired-round-requires
repaired-round-requires c = omega (arith, c.self.invariant.turn, c.self.invariant.limits.turns.1)

pub carry_out-requires-clause-leaves : goal.carry_out-requires-clause-leaves
carry_out-requires-clause-leaves c =
    let m = c.args.repair in
    rw c.repaired-round.ensures
    (subst (λ (t : State). with_round (record c.self.inside.round { turn = c.self.inside.round.turn + 1; held = false }) (with_state (applied t.world.state m) t.world) ≡ after_fix t.world m reply.Done) c.self.view_is refl
    ∙ ap (after_fix c.args.self.now.world m) (sym c.requires.done))

pub carry_out-requires-clause-turn : goal.carry_out-requires-clause-turn
carry_out-requires-clause-turn c =
    rw c.repaired-round.ensures
    (subst (λ (t : State). t.world.turn + 1 ≤ c.args.self.now.world.options.turns → c.self.inside.round.turn + 1 ≤ c.args.self.now.world.options.turns) c.self.view_is (λ le. le) (turn_left c.args.self.now.world c.args.conflict c.args.repair c.requires.open.enabled))
