use Rattle.std.proofs.Common.{◌∙◌, sym, refl, ap, subst}
use Rattle.pl_board.specs.Boards.{Standing}
use Rattle.pl_semantics.specs.Whole.{IsWhole}
use Rattle.pl_machine.specs.Changes.{CanChange}
use Rattle.pl_machine.specs.Sound.{State}
use Rattle.pl_machine.proofs.Runs.{sound_spoiled, sound_carried, took_carried}
use Rattle.pl_machine.proofs.machine.Machine.carry_out.Goals as goal

pub push_change-requires : goal.push_change-requires
push_change-requires c = record {
  unspoiled = ap (λ (t : State). t.spoiled) c.self.view_is ∙ c.requires.open.unspoiled;
  whole = subst (λ (t : State). IsWhole t.world.state) (sym c.self.view_is) c.requires.whole;
  can = subst (λ (t : State). CanChange t.world.state c.args.change) (sym c.self.view_is) c.requires.can;
  listed = (c.self.invariant.stands (ap (λ (t : State). t.spoiled) c.self.view_is ∙ c.requires.open.unspoiled)).listed;
  ahead = (c.self.invariant.stands (ap (λ (t : State). t.spoiled) c.self.view_is ∙ c.requires.open.unspoiled)).looked;
}

pub invariant_of-self : goal.invariant_of-self
invariant_of-self c = rw (c.in_err-push_change.ensures.err, c.in_err-push_change.ensures.same) (sound_spoiled _ _ c.self.invariant c.in_err-push_change.ensures.spoils)

pub invariant_of-self-2 : goal.invariant_of-self-2
invariant_of-self-2 c =
    rw c.in_ok-push_change.ensures.ok
    (sound_carried c.args.self.now _ c.args.round _ _ _ _ c.args.change c.args.event c.self.view_is c.self.invariant refl c.requires.open c.requires.event c.requires.reply c.requires.answers
    c.in_ok-push_change.ensures.keeps c.in_ok-push_change.ensures.due c.in_ok-push_change.ensures.ahead (ap (λ (b : Standing). b.state) c.in_ok-push_change.ensures.changed) c.requires.leaves c.requires.turn)

pub returns : goal.returns
returns c =
    rw c.in_ok-push_change.ensures.ok
    (took_carried c.args.self.now _ c.args.round _ _ c.args.change c.args.event c.self.view_is c.self.invariant refl c.requires.open c.requires.answers
    c.in_ok-push_change.ensures.keeps c.in_ok-push_change.ensures.due (ap (λ (b : Standing). b.state) c.in_ok-push_change.ensures.changed) c.requires.leaves (ap (λ (b : Standing). b.spoiled) c.in_ok-push_change.ensures.changed))
