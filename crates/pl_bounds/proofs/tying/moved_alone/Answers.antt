use Rattle.std.proofs.Common.{◌≡◌, ◌∙◌, List, ℕ, length, sym, ap, subst, arith}
use Rattle.pl_plan.specs.Trees.{subtree_of}
use Rattle.pl_semantics.specs.declared.plan_state.PlanState.{PlanState}
use Rattle.pl_semantics.specs.Whole.{IsWhole}
use Rattle.pl_bounds.proofs.Together.{few_by_shift, few_moved_alone}
use Rattle.pl_bounds.proofs.tying.moved_alone.Goals as goal

pub returns-then-subtree-ne1 : goal.returns-then-subtree-ne1
returns-then-subtree-ne1 c = λ to n can few.
    let s = c.args.board.now.state in
    let id = c.args.id in
    let whole : IsWhole s = subst (λ (t : PlanState). IsWhole t) c.state-state.ensures.value (c.state-state.ensures.whole c.requires.unspoiled) in
    let all = few_by_shift s whole c.requires.next id to can n few in
    omega (arith, all)

pub returns : goal.returns
returns c = λ to n can few.
    let s = c.args.board.now.state in
    let id = c.args.id in
    let whole : IsWhole s = subst (λ (t : PlanState). IsWhole t) c.state-state.ensures.value (c.state-state.ensures.whole c.requires.unspoiled) in
    let one : length (subtree_of id s.plan.activities) ≡ 1 = sym (ap (λ (l : List ℕ). length l) c.requires.subtree) ∙ c.if-subtree-ne1.false in
    few_moved_alone s whole c.requires.next id to can one c.placed.result c.placed.ensures n few
