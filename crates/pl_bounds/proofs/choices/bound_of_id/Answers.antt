use Rattle.std.proofs.Common.{◌≡◌, ◌≤◌, ℕ, Some, sym, subst}
use Rattle.std.specs.Prelude.{IfOk}
use Rattle.pl_plan.specs.declared.repair.RepairMove.TheVariants.{Detail}
use Rattle.pl_semantics.specs.declared.plan_state.PlanState.{PlanState}
use Rattle.pl_semantics.specs.Legal.{left_after}
use Rattle.pl_semantics.specs.PlanStates.{found}
use Rattle.pl_semantics.proofs.Found.{found_id}
use Rattle.pl_moves.specs.Runs.{CanBeMade}
use Rattle.pl_bounds.proofs.choices.bound_of_id.Goals as goal

pub bound_of_root-requires-clause-allowed : goal.bound_of_root-requires-clause-allowed
bound_of_root-requires-clause-allowed c =
    let s = c.args.board.now.state in
    let root = c.in-Some.root.now in
    let here : found s c.args.id ≡ Some root = subst (λ (t : PlanState). found t c.args.id ≡ Some root) c.state.ensures.value (sym c.in-Some.ensures.value) in
    subst (λ (n : ℕ). CanBeMade s (Detail n c.args.alternative)) (sym (found_id c.args.id s.plan.activities root here)) c.requires.allowed

pub returns-in-Some-clause-least : goal.returns-in-Some-clause-least
returns-in-Some-clause-least c =
    let s = c.args.board.now.state in
    let root = c.in-Some.root.now in
    let here : found s c.args.id ≡ Some root = subst (λ (t : PlanState). found t c.args.id ≡ Some root) c.state.ensures.value (sym c.in-Some.ensures.value) in
    subst (λ (n : ℕ). IfOk c.bound_of_root.result (λ k. k ≤ left_after s (Detail n c.args.alternative))) (found_id c.args.id s.plan.activities root here) c.bound_of_root.ensures.least
