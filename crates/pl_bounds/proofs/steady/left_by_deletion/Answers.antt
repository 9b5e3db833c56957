use Rattle.std.proofs.Common.{◌≡◌, ◌≤◌, List, ℕ, true, subst, arith}
use Rattle.std.specs.Prelude.{filter, length}
use Rattle.pl_conflict.specs.declared.conflict.Conflict.{Conflict}
use Rattle.pl_plan.specs.Trees.{subtree_of}
use Rattle.pl_semantics.specs.declared.plan_state.PlanState.{PlanState}
use Rattle.pl_semantics.specs.Whole.{IsWhole}
use Rattle.pl_bounds.specs.Standing.{count_of_elsewhere, is_elsewhere, IsOpenWithout}
use Rattle.pl_bounds.proofs.Staying.{delete_left}
use Rattle.pl_bounds.proofs.steady.left_by_deletion.Goals as goal

pub returns : goal.returns
returns c =
    let is = c.state-s.ensures.value in
    let s = c.args.board.now.state in
    let id = c.args.id in
    let whole : IsWhole s = subst (λ (t : PlanState). IsWhole t) is (c.state-s.ensures.whole c.requires.unspoiled) in
    let of_board = subst (λ (ks : List Conflict). c.count_elsewhere-left.result ≤ length (filter (is_elsewhere c.args.subtree.now) ks)) (c.conflicts.ensures c.requires.unspoiled) c.count_elsewhere-left.ensures in
    let others : c.count_elsewhere-left.result ≤ count_of_elsewhere s (subtree_of id s.plan.activities) = subst (λ (ids : List ℕ). c.count_elsewhere-left.result ≤ count_of_elsewhere s ids) c.requires.subtree of_board in
    let reopened : c.in_ok-is_open.is_open ≡ true → IsOpenWithout s id = λ h. subst (λ (t : PlanState). IsOpenWithout t id) is (c.in_ok-is_open.ensures h) in
    let most = delete_left s whole c.requires.next id c.requires.allowed c.count_elsewhere-left.result others c.in_ok-is_open.is_open reopened in
    omega (arith, most, c.count_if.ensures)
