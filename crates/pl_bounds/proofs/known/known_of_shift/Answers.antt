use Rattle.std.proofs.Common.{◌∙◌, ap, sym, subst}
use Rattle.std.specs.Prelude.{IfSome}
use Rattle.pl_plan.specs.declared.repair.RepairMove.TheVariants.{Shift}
use Rattle.pl_plan.specs.Activities.{IsLive}
use Rattle.pl_plan.specs.Trees.{subtree_of}
use Rattle.pl_moves.proofs.Made.{named_live}
use Rattle.pl_semantics.specs.declared.plan_state.PlanState.{PlanState}
use Rattle.pl_bounds.specs.Windows.{IsWindowOf}
use Rattle.pl_bounds.proofs.Knowing.{known_shift}
use Rattle.pl_bounds.proofs.known.known_of_shift.Goals as goal

pub subtree-requires-clause-live : goal.subtree-requires-clause-live
subtree-requires-clause-live c =
    let id = c.args.id in
    subst (λ (t : PlanState). IsLive id t.plan.activities) (sym c.state-s.ensures.value) (named_live c.args.board.now.state (Shift id c.args.start) c.requires.allowed.proper)

pub left_by_shift-steady-requires-clause-subtree : goal.left_by_shift-steady-requires-clause-subtree
left_by_shift-steady-requires-clause-subtree c = c.deref.ensures.value ∙ (c.in_ok-subtree.ensures ∙ ap (λ (t : PlanState). subtree_of c.args.id t.plan.activities) c.state-s.ensures.value)

pub left_alone_by_shift-requires-clause-subtree : goal.left_alone_by_shift-requires-clause-subtree
left_alone_by_shift-requires-clause-subtree c = c.deref-2.ensures.value ∙ (c.in_ok-subtree.ensures ∙ ap (λ (t : PlanState). subtree_of c.args.id t.plan.activities) c.state-s.ensures.value)

pub shifted_if-requires-clause-live : goal.shifted_if-requires-clause-live
shifted_if-requires-clause-live c = named_live c.args.board.now.state (Shift c.args.id c.args.start) c.requires.allowed.proper

pub shifted_if-requires-clause-subtree : goal.shifted_if-requires-clause-subtree
shifted_if-requires-clause-subtree c = c.deref-3.ensures.value ∙ (c.in_ok-subtree.ensures ∙ ap (λ (t : PlanState). subtree_of c.args.id t.plan.activities) c.state-s.ensures.value)

pub moved_alone-requires-clause-subtree : goal.moved_alone-requires-clause-subtree
moved_alone-requires-clause-subtree c = c.deref-4.ensures.value ∙ (c.in_ok-subtree.ensures ∙ ap (λ (t : PlanState). subtree_of c.args.id t.plan.activities) c.state-s.ensures.value)

pub returns-clause-known : goal.returns-clause-known
returns-clause-known c =
    let s = c.args.board.now.state in
    let id = c.args.id in
    let window = subst (λ (t : PlanState). IfSome c.window_of.result (λ w. IsWindowOf t id w)) c.state-s.ensures.value c.window_of.ensures in
    known_shift s id c.args.start c.left_by_shift-steady.result c.left_by_shift-steady.ensures c.window_of.result window c.in_ok-untouched.untouched c.moved_alone.result (λ to can. c.moved_alone.ensures to c.in_ok-untouched.untouched can c.in_ok-untouched.ensures) c.in_ok-asking.asking (c.in_ok-asking.ensures c.args.start)
