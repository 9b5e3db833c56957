use Rattle.std.proofs.Common.{◌≡◌, true, false, Some, sym, ◌∙◌, ap, subst}
use Rattle.pl_model.specs.declared.whole.Model.{Model}
use Rattle.pl_entry.specs.declared.reply.Reply.TheVariants as reply
use Rattle.pl_entry.specs.Bounds.{IsDispatchReply}
use Rattle.pl_semantics.specs.PlanStates.{found, is_committed, row_of}
use Rattle.pl_semantics.specs.Whole.{IsWhole}
use Rattle.pl_machine.specs.Sound.{State}
use Rattle.pl_machine.proofs.Sends.{is_command}
use Rattle.pl_machine.proofs.machine.Machine.command_with.Goals as goal

pub returns-clause-reply : goal.returns-clause-reply
returns-clause-reply c =
    let a = c.args.activity.now in
    let unspoiled : c.self.inside.board.spoiled ≡ false = ap (λ (t : State). t.spoiled) c.self.view_is ∙ c.requires.unspoiled in
    let standing = c.self.invariant.stands unspoiled in
    let s = c.self.inside.board.state in
    let here : found s a.id ≡ Some a = subst (λ (t : State). found t.world.state a.id ≡ Some a) (sym c.self.view_is) c.requires.found in
    let committed : is_committed s a ≡ true = subst (λ (t : State). is_committed t.world.state a ≡ true) (sym c.self.view_is) c.requires.committed in
    let whole : IsWhole s = subst (λ (t : State). IsWhole t.world.state) (sym c.self.view_is) c.requires.whole in
    let values_are : c.in_ok-values.values ≡ row_of s a =
    c.in_ok-values.ensures ∙ c.requires.values ∙ ap (λ (t : State). row_of t.world.state a) (sym c.self.view_is) in
    let model_is : s.model ≡ c.args.self.now.model = standing.model ∙ ap (λ (t : State). t.model) c.self.view_is in
    subst (λ (m : Model). IsDispatchReply m (reply.Sent c.word.result c.word-2.result c.word-3.result c.in_ok-values.values)) model_is
    (is_command s a c.word.result c.word-2.result c.word-3.result c.in_ok-values.values c.word.ensures.same c.word-2.ensures.same c.word-3.ensures.same values_are
    whole standing.sendable here committed c.word.ensures.fits c.word-2.ensures.fits c.word-3.ensures.fits)
