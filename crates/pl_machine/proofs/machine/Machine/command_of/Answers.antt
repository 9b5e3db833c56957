use Rattle.std.proofs.Common.{◌≡◌, Some, sym, ◌∙◌, ap, subst}
use Rattle.pl_plan.specs.declared.evaluated.Evaluated.{Evaluated}
use Rattle.pl_semantics.specs.PlanStates.{found, row_of}
use Rattle.pl_update.proofs.AboutEvaluations.Reading.{kept_is, none_kept}
use Rattle.pl_machine.specs.Sound.{State}
use Rattle.pl_machine.proofs.machine.Machine.command_of.Goals as goal

pub evaluated-requires : goal.evaluated-requires
evaluated-requires c = ap (λ (t : State). t.spoiled) c.self.view_is ∙ c.requires.unspoiled

pub command_with-requires-clause-values : goal.command_with-requires-clause-values
command_with-requires-clause-values c =
    let a = c.args.activity.now in
    let s = c.self.inside.board.state in
    let here : found s a.id ≡ Some a = subst (λ (t : State). found t.world.state a.id ≡ Some a) (sym c.self.view_is) c.requires.found in
    let are : c.in-Some.evaluated.now.values ≡ row_of s a = ap (λ (e : Evaluated). e.values) (kept_is s.model s.plan.activities a here c.in-Some.evaluated.now c.in-Some.ensures) in
    are ∙ ap (λ (t : State). row_of t.world.state a) c.self.view_is

pub unreachable-requires : goal.unreachable-requires
unreachable-requires c =
    let a = c.args.activity.now in
    let s = c.self.inside.board.state in
    let here : found s a.id ≡ Some a = subst (λ (t : State). found t.world.state a.id ≡ Some a) (sym c.self.view_is) c.requires.found in
    none_kept s.model s.plan.activities a here c.in-None.ensures
