-- A measured end, as a replacement of the activity by itself with this end.
use Rattle.std.proofs.Common.{◌≡◌, ℕ, List, [], ◌∷◌, Some}
use Rattle.pl_plan.specs.declared.activity.Activity.{Activity}
use Rattle.pl_plan.specs.Activities.{ended}
use Rattle.pl_semantics.specs.declared.plan_state.PlanState.{PlanState}
use Rattle.pl_semantics.specs.PlanStates.{found}
use Rattle.pl_semantics.specs.Whole.{IsWhole}
use Rattle.pl_update.specs.Changes.Changes.{measured_to, CanMeasure}
use Rattle.pl_update.specs.Changes.Replaced.{CanReplace, with_plan}
use Rattle.pl_update.proofs.AboutChanges.Measuring.{can_measure, measured_as}

module _ (s : PlanState) (id moment : ℕ) (gone : List ℕ) (more : List Activity) (whole : IsWhole s) (can : CanMeasure s id moment)
    (alone : gone ≡ id ∷ []) (comes : (a : Activity) → found s id ≡ Some a → more ≡ ended moment a ∷ []) where
  pub can_end : CanReplace s gone more
  can_end = rw (alone, comes can.a can.here) (can_measure s id moment whole can.a can.here can)

  pub end_is : with_plan gone more s ≡ measured_to id moment s
  end_is = rw (alone, comes can.a can.here) (measured_as s id moment whole can.a can.here)
