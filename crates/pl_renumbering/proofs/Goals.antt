-- What is wrong with goals and with their roots, under new ids.
use Rattle.std.proofs.Common.{◌≡◌, ℕ, ltb, refl, ap, ◌∙◌}
use Rattle.std.specs.Prelude.{nat_le, ◌&&◌, ◌||◌, map}
use Rattle.pl_facts.specs.declared.goal.Goal.{Goal}
use Rattle.pl_plan.specs.declared.activity.Activity.{Activity}
use Rattle.pl_semantics.specs.declared.plan_state.PlanState.{PlanState}
use Rattle.pl_semantics.specs.PlanStates.{floor_of, served_by, of_found}
use Rattle.pl_semantics.specs.Goals.{open_goal, open_at, off_goal, off_from, off_at, goal_conflicts}
use Rattle.pl_semantics.specs.PlanStates.{is_committed}
use Rattle.pl_renumbering.specs.Renumbered.{renumbered, renumbered_state, renumbered_conflict}
use Rattle.pl_renumbering.proofs.Lists.{flat_mapped, flat_along, both_mapped}
use Rattle.pl_renumbering.proofs.Pieces.{when_along, planned_along, of_found_along}
use Rattle.pl_renumbering.proofs.Comings.{open_same, served_by_same}

module _ (f : ℕ → ℕ) (next : ℕ) (s : PlanState) where
  open_along : (g : Goal) → open_at (renumbered_state f next s) g ≡ map (renumbered_conflict f) (open_at s g)
  unfolding open_at
  open_along g = when_along (renumbered_conflict f) _ _ (open_goal g) (ap (λ b. b && nat_le (floor_of s) g.latest) (open_same f next s g))

  off_along : (a : Activity) → off_at (renumbered_state f next s) (renumbered f a) ≡ map (renumbered_conflict f) (off_at s a)
  unfolding off_at
  off_along a = planned_along (renumbered_conflict f) (is_committed s a) _ _
      (ap (of_found (off_from (renumbered f a))) (served_by_same f next s a)
      ∙ of_found_along (renumbered_conflict f) (off_from (renumbered f a)) (off_from a) (λ g. when_along (renumbered_conflict f) _ (ltb a.start g.earliest || ltb g.latest a.start) (off_goal a g) refl) (served_by s a))

  pub goals_renumbered : goal_conflicts (renumbered_state f next s) ≡ map (renumbered_conflict f) (goal_conflicts s)
  goals_renumbered = both_mapped (renumbered_conflict f) _ _ _ _
      (flat_along (renumbered_conflict f) (open_at (renumbered_state f next s)) (open_at s) open_along s.goals)
      (flat_mapped (renumbered f) (renumbered_conflict f) (off_at (renumbered_state f next s)) (off_at s) off_along s.plan.activities)
