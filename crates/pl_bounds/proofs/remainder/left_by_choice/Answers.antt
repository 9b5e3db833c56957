use Rattle.std.proofs.Common.{ℕ, ◌≤◌, List, subst, arith}
use Rattle.std.specs.Prelude.{filter, length}
use Rattle.pl_conflict.specs.declared.conflict.Conflict.{Conflict}
use Rattle.pl_semantics.specs.declared.plan_state.PlanState.{PlanState}
use Rattle.pl_semantics.specs.Conflicts.{conflicts_of}
use Rattle.pl_semantics.specs.Whole.{IsWhole}
use Rattle.pl_bounds.specs.Choosing.{lacks}
use Rattle.pl_bounds.specs.Standing.{is_elsewhere}
use Rattle.pl_bounds.proofs.Remainders.{plain_left}
use Rattle.pl_bounds.proofs.remainder.left_by_choice.Goals as goal

pub returns : goal.returns
returns c =
    let s = c.args.board.now.state in
    let n = c.count_elsewhere-others.result in
    let m = c.count_lacking.result in
    let whole : IsWhole s = subst (λ (t : PlanState). IsWhole t) c.state-s.ensures.value (c.state-s.ensures.whole c.requires.unspoiled) in
    let of_board : n ≤ length (filter (is_elsewhere c.as_slice.result.now) (conflicts_of s)) = subst (λ (ks : List Conflict). n ≤ length (filter (is_elsewhere c.as_slice.result.now) ks)) (c.conflicts.ensures c.requires.unspoiled) c.count_elsewhere-others.ensures in
    let few : n ≤ length (filter (is_elsewhere c.in_ok-ids.ids.items) (conflicts_of s)) = subst (λ (ids : List ℕ). n ≤ length (filter (is_elsewhere ids) (conflicts_of s))) c.as_slice.ensures.value of_board in
    let some : m ≤ length (filter (lacks s) c.args.placed.now) = subst (λ (t : PlanState). m ≤ length (filter (lacks t) c.args.placed.now)) c.state-s.ensures.value c.count_lacking.ensures in
    let all = plain_left s whole c.requires.next c.args.root.now c.requires.live c.requires.root c.args.alternative c.requires.allowed c.args.placed.now c.requires.placed c.in_ok-ids.ids.items c.in_ok-ids.ensures n m few some in
    omega (arith, all, c.saturating_sub-lacking.ensures, c.saturating_add.ensures)
