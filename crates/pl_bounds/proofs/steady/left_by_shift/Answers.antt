use Rattle.std.proofs.Common.{◌≤◌, List, ℕ, subst, arith}
use Rattle.std.specs.Prelude.{filter, length}
use Rattle.pl_conflict.specs.declared.conflict.Conflict.{Conflict}
use Rattle.pl_plan.specs.Trees.{subtree_of}
use Rattle.pl_semantics.specs.declared.plan_state.PlanState.{PlanState}
use Rattle.pl_semantics.specs.Whole.{IsWhole}
use Rattle.pl_bounds.specs.Standing.{count_of_elsewhere, is_elsewhere}
use Rattle.pl_bounds.proofs.Staying.{greater_left, unmoved_left}
use Rattle.pl_bounds.proofs.steady.left_by_shift.Goals as goal

pub returns-then-standing : goal.returns-then-standing
returns-then-standing c =
    let s = c.args.board.now.state in
    let whole : IsWhole s = subst (λ (t : PlanState). IsWhole t) c.state-state.ensures.value (c.state-state.ensures.whole c.requires.unspoiled) in
    unmoved_left s whole c.requires.next c.args.id c.args.standing.now c.requires.standing c.args.standing.now.unmoved (omega arith)

pub returns : goal.returns
returns c =
    let s = c.args.board.now.state in
    let id = c.args.id in
    let whole : IsWhole s = subst (λ (t : PlanState). IsWhole t) c.state-state.ensures.value (c.state-state.ensures.whole c.requires.unspoiled) in
    let n = c.count_elsewhere-others.result in
    let of_board = subst (λ (ks : List Conflict). n ≤ length (filter (is_elsewhere c.args.subtree.now) ks)) (c.conflicts.ensures c.requires.unspoiled) c.count_elsewhere-others.ensures in
    let others : n ≤ count_of_elsewhere s (subtree_of id s.plan.activities) = subst (λ (ids : List ℕ). n ≤ count_of_elsewhere s ids) c.requires.subtree of_board in
    greater_left s whole c.requires.next id c.args.standing.now c.requires.standing n others c.max.result (omega arith)
