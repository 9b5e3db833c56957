-- The choice of an alternative of a root, and what it asks of timelines.
use Rattle.std.specs.Prelude.{◌≡◌, ℕ, ◌==◌, Bool, not, length, [], ◌∷◌}
use Rattle.pl_plan.specs.declared.activity.Activity.{Activity}
use Rattle.pl_plan.specs.declared.repair.RepairMove.TheVariants.{Detail}
use Rattle.pl_plan.specs.Fitting.{alternatives_of, kind_of}
use Rattle.pl_semantics.specs.declared.plan_state.PlanState.{PlanState}
use Rattle.pl_semantics.specs.Moves.{applied}
use Rattle.pl_moves.specs.Changes.{placed_by}
use Rattle.pl_bounds.specs.Askings.{without_goal}
use Rattle.pl_bounds.specs.Exchanges.{IsExchange}
use Rattle.pl_bounds.specs.declared.asking.Asking.{Asking}

-- the state with this activity alone in its plan, where it serves no goal, and no goals
abbrev pub bare : PlanState → Activity → PlanState
bare s a = record s { plan = record { activities = without_goal a ∷ [] }; goals = [] }

-- the state once an alternative of the activity is chosen there
abbrev pub chosen_alone : PlanState → Activity → ℕ → PlanState
chosen_alone s a alternative = applied (bare s a) (Detail a.id alternative)

-- its kind has alternatives, so it lacks one until one is chosen
abbrev pub lacks : PlanState → Activity → Bool
lacks s a = not (length (alternatives_of (kind_of s.model a)) == 0)

abbrev pub kind_of_one : Activity → ℕ
kind_of_one a = a.kind

-- What the activity asked for before the choice, and what it and its children ask for after it. A choice moves nothing, so both stand as
-- they are: the start that they would be moved from is 0, as is the one that they would be moved to.
pub record IsAskedByChoice (s : PlanState) (id alternative : ℕ) (a : Asking) : Type 0 where
  pub exchange : IsExchange s (id ∷ []) (placed_by s (Detail id alternative)) a.going.items a.coming.items
  pub start : a.start ≡ 0
