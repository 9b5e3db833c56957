-- What the activities of a state come to, under new ids.
use Rattle.std.proofs.Common.{◌≡◌, ℕ, Option, Some, None, refl, ap}
use Rattle.std.specs.Prelude.{not, ◌&&◌, option_and_then}
use Rattle.std.specs.Option.{option_map}
use Rattle.pl_facts.specs.declared.goal.Goal.{Goal}
use Rattle.pl_plan.specs.declared.activity.Activity.{Activity}
use Rattle.pl_plan.specs.Trees.{IsRooted}
use Rattle.pl_semantics.specs.declared.plan_state.PlanState.{PlanState}
use Rattle.pl_semantics.specs.PlanStates.{found, row_of, amounts_at, end_at, is_open, goal_at, served_by}
use Rattle.pl_semantics.specs.Activities.{bindings_of, row_above}
use Rattle.pl_renumbering.specs.Renumbered.{KeepsOrder, renumbered_place, renumbered, renumbered_state}
use Rattle.pl_renumbering.proofs.Activities.{served_same, serving_same, found_renumbered}
use Rattle.pl_renumbering.proofs.Values.{bindings_same, values_same, amounts_same, ends_same}

module _ (f : ℕ → ℕ) (next : ℕ) (s : PlanState) where
  pub open_same : (g : Goal) → is_open (renumbered_state f next s) g ≡ is_open s g
  open_same g = ap (λ b. not g.dropped && not b) (serving_same f g.number s.plan.activities)

  pub served_by_same : (a : Activity) → served_by (renumbered_state f next s) (renumbered f a) ≡ served_by s a
  served_by_same a = ap (option_and_then (goal_at s)) (served_same f a)

  module _ (keeps : KeepsOrder f) where
    pub found_same : (id : ℕ) → found (renumbered_state f next s) (f id) ≡ option_map (renumbered f) (found s id)
    found_same id = found_renumbered f keeps id s.plan.activities

    pub bindings_alike : (a : Activity) → bindings_of (renumbered_state f next s) (renumbered f a) ≡ bindings_of s a
    bindings_alike a = bindings_same f keeps s.model s.plan.activities a.parent

    module _ (rooted : IsRooted s.plan.activities) where
      pub row_same : (a : Activity) → row_of (renumbered_state f next s) (renumbered f a) ≡ row_of s a
      row_same a = values_same f keeps s.model s.plan.activities rooted a.id

      pub amounts_alike : (a : Activity) → amounts_at (renumbered_state f next s) (renumbered f a) ≡ amounts_at s a
      amounts_alike a = amounts_same f keeps s.model s.plan.activities rooted a.id

      pub end_alike : (a : Activity) → end_at (renumbered_state f next s) (renumbered f a) ≡ end_at s a
      end_alike a = ends_same f keeps s.model s.plan.activities rooted a.id

      pub above_same : (o : Option (ℕ × ℕ)) → row_above (renumbered_state f next s) (renumbered_place f o) ≡ row_above s o
      above_same None = refl
      above_same (Some p) = values_same f keeps s.model s.plan.activities rooted p.0
