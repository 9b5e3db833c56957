-- A drop is of an open goal, and all other moves are of activities.
use Rattle.std.proofs.Common.{◌≡◌, ℕ, true, refl}
use Rattle.std.specs.Prelude.{◌&&◌, not, Option, Some, None}
use Rattle.pl_lists.proofs.Tests.{and_first}
use Rattle.pl_facts.specs.declared.goal.Goal.{Goal}
use Rattle.pl_plan.specs.declared.repair.RepairMove.{RepairMove}
use Rattle.pl_plan.specs.declared.repair.RepairMove.TheVariants.{Add, Delete, Shift, Detail, Abstract, Assign, Drop}
use Rattle.pl_semantics.specs.declared.plan_state.PlanState.{PlanState}
use Rattle.pl_semantics.specs.PlanStates.{goal_at, is_open}
use Rattle.pl_semantics.specs.Moves.{holds, is_proper, applied}
use Rattle.pl_update.specs.Changes.Changes.{IsOpenIn, without_goal}
use Rattle.pl_moves.specs.Changes.{IsOfActivities}

pub open_if : (s : PlanState) (n : ℕ) → is_proper s (Drop n) ≡ true → IsOpenIn s n
unfolding is_proper
open_if s n proper = by (goal_at s n) proper
  where
    by : (o : Option Goal) → holds (λ g. is_open s g && not g.must) o ≡ true → holds (is_open s) o ≡ true
    by None e = absurd (cc)
    by (Some g) e = and_first (is_open s g) (not g.must) e

pub dropped_is : (s : PlanState) (n : ℕ) → without_goal n s ≡ applied s (Drop n)
unfolding applied
dropped_is s n = refl

pub of_activities : (m : RepairMove) → ((n : ℕ) → m ≡ Drop n → ⊥) → IsOfActivities m
of_activities (Add kind start goal) other = tt
of_activities (Delete id) other = tt
of_activities (Shift id start) other = tt
of_activities (Detail id alternative) other = tt
of_activities (Abstract id) other = tt
of_activities (Assign id param value) other = tt
of_activities (Drop n) other = absurd (other n refl)
