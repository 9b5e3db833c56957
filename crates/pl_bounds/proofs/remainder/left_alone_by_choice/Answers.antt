use Rattle.std.proofs.Common.{◌∙◌, [], ◌∷◌, None, subst}
use Rattle.pl_semantics.specs.declared.plan_state.PlanState.{PlanState}
use Rattle.pl_semantics.specs.Whole.{IsWhole}
use Rattle.pl_bounds.proofs.Listed.{few_left}
use Rattle.pl_bounds.proofs.Remainders.{alone_left}
use Rattle.pl_bounds.proofs.remainder.left_alone_by_choice.Goals as goal

pub returns : goal.returns
returns c =
    let s = c.args.board.now.state in
    let whole : IsWhole s = subst (λ (t : PlanState). IsWhole t) c.state-state.ensures.value (c.state-state.ensures.whole c.requires.unspoiled) in
    let few = few_left s c.args.standing.now c.requires.standing (c.args.root.now.id ∷ []) c.as_slice-2.result.now None c.as_slice.result.now c.as_slice.ensures.value c.count_left.result c.count_left.ensures in
    alone_left s whole c.requires.next c.args.root.now c.requires.live c.requires.root c.args.alternative c.requires.allowed c.args.placed.now c.requires.placed c.as_slice-2.result.now (c.as_slice-2.ensures.value ∙ c.in_ok-kinds.ensures) c.count_left.result few
