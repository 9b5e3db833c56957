-- How much a timeline rises by the steps of a move, and up to when.
use Rattle.std.specs.Prelude.{◌≡◌, ℕ, ◌≤◌, ◌<◌, List}
use Rattle.pl_semantics.specs.declared.plan_state.PlanState.{PlanState}
use Rattle.pl_bounds.specs.Steps.{steps_on, is_past_by}
use Rattle.pl_bounds.specs.Tallies.{IsTallyOf}
use Rattle.pl_bounds.specs.declared.added.Added.{Added}
use Rattle.pl_bounds.specs.declared.bounding.Walk.{Walk}
use Rattle.pl_bounds.specs.declared.outside.Outside.{Outside}
use Rattle.pl_bounds.specs.declared.stepwise.Step.{Step}
use Rattle.pl_bounds.specs.declared.stepwise.Way.{Way}

-- so much is added from a moment on and before another
abbrev pub IsAddedBy : Outside → Way → List Step → Added → Type 0
IsAddedBy o way steps a = (t : ℕ) → a.from ≤ t → t < a.until → steps_on o way t steps ≡ a.by

-- its tally is of the timeline with these steps, and so much is added
pub record IsWalkOf (s : PlanState) (o : Outside) (way : Way) (steps : List Step) (w : Walk) : Type 0 where
  pub tally : IsTallyOf (is_past_by s o way steps) s.moment s.model.horizon w.tally
  pub added : IsAddedBy o way steps w.added
