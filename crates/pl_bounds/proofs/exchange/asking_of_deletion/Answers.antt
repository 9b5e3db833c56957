use Rattle.std.proofs.Common.{◌∙◌, ap, sym, subst}
use Rattle.pl_plan.specs.declared.repair.RepairMove.TheVariants.{Delete}
use Rattle.pl_plan.specs.Activities.{IsLive}
use Rattle.pl_plan.specs.Trees.{subtree_of}
use Rattle.pl_moves.proofs.Made.{named_live}
use Rattle.pl_semantics.specs.declared.plan_state.PlanState.{PlanState}
use Rattle.pl_bounds.proofs.exchange.asking_of_deletion.Goals as goal

pub subtree-requires-clause-live : goal.subtree-requires-clause-live
subtree-requires-clause-live c = subst (λ (t : PlanState). IsLive c.args.id t.plan.activities) (sym c.state.ensures.value) (named_live c.args.board.now.state (Delete c.args.id) c.requires.allowed.proper)

pub returns : goal.returns
returns c = c.in_ok-asking.ensures c.args.id (c.deref.ensures.value ∙ (c.in_ok-ids.ensures ∙ ap (λ (t : PlanState). subtree_of c.args.id t.plan.activities) c.state.ensures.value))
