use Rattle.std.proofs.Common.{◌≡◌, ℕ, Some, subst, sym}
use Rattle.pl_semantics.specs.PlanStates.{goal_at}
use Rattle.pl_choose.proofs.promising.first_for_goal.Goals as goal

pub first_if_likely-requires-clause-goal : goal.first_if_likely-requires-clause-goal
first_if_likely-requires-clause-goal c =
    let some = rw c.in-Some.is at c.get.ensures.some in
    let here : goal_at c.args.state.now c.args.number ≡ Some c.in-Some.goal.now = sym (rw c.in-Some.is at c.get.ensures.goal) in
    subst (λ (n : ℕ). goal_at c.args.state.now n ≡ Some c.in-Some.goal.now) (sym some.1) here
