use Rattle.std.proofs.Common.{◌∙◌, ap, sym, subst}
use Rattle.pl_plan.specs.declared.repair.RepairMove.TheVariants.{Delete}
use Rattle.pl_plan.specs.Activities.{IsLive}
use Rattle.pl_plan.specs.Trees.{subtree_of}
use Rattle.pl_moves.proofs.Made.{named_live}
use Rattle.pl_semantics.specs.declared.plan_state.PlanState.{PlanState}
use Rattle.pl_semantics.specs.Whole.{IsWhole}
use Rattle.pl_bounds.proofs.Knowing.{known_deletion}
use Rattle.pl_bounds.proofs.Together.{few_by_deletion}
use Rattle.pl_bounds.proofs.known.known_of_deletion.Goals as goal

pub subtree-requires-clause-live : goal.subtree-requires-clause-live
subtree-requires-clause-live c =
    let id = c.args.id in
    subst (λ (t : PlanState). IsLive id t.plan.activities) (sym c.state-s.ensures.value) (named_live c.args.board.now.state (Delete id) c.requires.allowed.proper)

pub left_by_deletion-requires-clause-subtree : goal.left_by_deletion-requires-clause-subtree
left_by_deletion-requires-clause-subtree c = c.deref.ensures.value ∙ (c.in_ok-subtree.ensures ∙ ap (λ (t : PlanState). subtree_of c.args.id t.plan.activities) c.state-s.ensures.value)

pub left_alone_by_deletion-requires-clause-subtree : goal.left_alone_by_deletion-requires-clause-subtree
left_alone_by_deletion-requires-clause-subtree c = c.deref-3.ensures.value ∙ (c.in_ok-subtree.ensures ∙ ap (λ (t : PlanState). subtree_of c.args.id t.plan.activities) c.state-s.ensures.value)

pub returns-clause-known : goal.returns-clause-known
returns-clause-known c =
    let is = c.state-s.ensures.value in
    let s = c.args.board.now.state in
    let id = c.args.id in
    let of = c.deref-2.ensures.value ∙ (c.in_ok-subtree.ensures ∙ ap (λ (t : PlanState). subtree_of id t.plan.activities) is) in
    let whole : IsWhole s = subst (λ (t : PlanState). IsWhole t) is (c.state-s.ensures.whole c.requires.unspoiled) in
    let few = few_by_deletion s whole c.requires.next id c.requires.allowed c.left_alone_by_deletion.result c.left_alone_by_deletion.ensures in
    known_deletion s id c.in_ok-steady.steady c.in_ok-steady.ensures c.left_alone_by_deletion.result few c.in_ok-asking.asking (c.in_ok-asking.ensures id of)
