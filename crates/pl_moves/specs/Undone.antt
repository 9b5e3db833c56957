-- How a change of activities is undone.
use Rattle.std.specs.Prelude.{◌≡◌, ℕ, ◌≤◌, List, [], ◌∷◌, ◌++◌, All}
use Rattle.pl_plan.specs.declared.activity.Activity.{Activity}
use Rattle.pl_plan.specs.declared.repair.RepairMove.{RepairMove}
use Rattle.pl_plan.specs.Activities.{activity_of}
use Rattle.pl_semantics.specs.declared.plan_state.PlanState.{PlanState}
use Rattle.pl_semantics.specs.PlanStates.{of_found}
use Rattle.pl_semantics.specs.Moves.{applied}
use Rattle.pl_semantics.specs.Whole.{IsIdBelow}
use Rattle.pl_update.specs.Changes.Changes.{with_next}
use Rattle.pl_update.specs.Changes.Replaced.{CanReplace, with_plan}

abbrev pub alone : Activity → List Activity
alone a = a ∷ []

-- the activities of these ids, as they stand
abbrev pub picked : List Activity → List ℕ → List Activity
picked xs [] = []
picked xs (id ∷ ids) = of_found alone (activity_of id xs) ++ picked xs ids

-- A move made by one replacement is undone by another: after both, and with the next id as it was, the state is as it was.
pub record IsUndoneBy (s : PlanState) (m : RepairMove) (gone : List ℕ) (placed : List Activity) (leaving : List ℕ) (returning : List Activity) : Type 0 where
  pub can : CanReplace s gone placed
  pub made : with_plan gone placed s ≡ applied s m
  pub can_undo : CanReplace (applied s m) leaving returning
  pub undone : with_next s.next_id (with_plan leaving returning (applied s m)) ≡ s
  -- the next id is above every live one, and may be the next one again
  pub ids : (1 ≤ s.next_id) × All (IsIdBelow s.next_id) (with_plan leaving returning (applied s m)).plan.activities
  pub next : s.next_id ≤ (with_plan leaving returning (applied s m)).next_id
