use Rattle.std.proofs.Common.{◌≡◌, ◌≤◌, false, ◌∙◌, ap, subst, arith}
use Rattle.pl_semantics.specs.Whole.{IsWhole}
use Rattle.pl_machine.specs.Sound.{State}
use Rattle.pl_machine.proofs.machine.Machine.standing.Goals as goal

pub returns-clause-whole : goal.returns-clause-whole
returns-clause-whole c =
    let unspoiled : c.self.inside.board.spoiled ≡ false = ap (λ (t : State). t.spoiled) c.self.view_is ∙ c.requires in
    subst (λ (t : State). IsWhole t.world.state) c.self.view_is (subst IsWhole c.state.ensures.value (c.state.ensures.whole unspoiled))

pub returns-clause-next_id : goal.returns-clause-next_id
returns-clause-next_id c =
    let unspoiled : c.self.inside.board.spoiled ≡ false = ap (λ (t : State). t.spoiled) c.self.view_is ∙ c.requires in
    let standing = c.self.invariant.stands unspoiled in
    subst (λ (t : State). t.world.state.next_id ≤ 3999999000) c.self.view_is (omega (arith, standing.next_id, c.self.invariant.bounded, c.self.invariant.limits.entries.1))
