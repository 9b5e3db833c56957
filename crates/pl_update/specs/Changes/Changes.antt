-- Changes of a plan state, each of the one thing that it names.
use Rattle.std.specs.Prelude.{◌≡◌, ℕ, ◌+◌, ◌<◌, ◌≤◌, min, ℤ, pos, true, ◌++◌, ◌∷◌, [], length, slice_set, Option, Some, None}
use Rattle.pl_facts.specs.declared.goal.Goal.{Goal}
use Rattle.pl_facts.specs.Goals.{with_dropped}
use Rattle.pl_facts.specs.Bases.{first_bases}
use Rattle.pl_model.specs.declared.timelines.Timeline.{Timeline}
use Rattle.pl_model.specs.declared.timelines.Timeline.TheVariants.{Capacity, Level, States}
use Rattle.pl_model.specs.declared.whole.Model.{Model}
use Rattle.pl_model.specs.Checked.{IsLevel}
use Rattle.pl_semantics.specs.declared.plan_state.PlanState.{PlanState}
use Rattle.pl_plan.specs.declared.activity.Activity.{Activity}
use Rattle.pl_plan.specs.Activities.{with_end}
use Rattle.pl_semantics.specs.PlanStates.{found, goal_at, is_open}
use Rattle.pl_semantics.specs.Moves.{holds}
use Rattle.pl_semantics.specs.Whole.{IsStateOf}

-- nothing planned, no goals, and the start values of timelines, at the moment 0
abbrev pub first_state : Model → ℕ → PlanState
first_state model live = record { model = model; plan = record { activities = [] }; goals = []; bases = first_bases model; moment = 0; committed = 0; next_id = 1; live_limit = live }

abbrev pub with_goal : Goal → PlanState → PlanState
with_goal goal s = record s { goals = s.goals ++ goal ∷ [] }

abbrev pub without_goal : ℕ → PlanState → PlanState
without_goal number s = record s { goals = with_dropped number s.goals }

abbrev pub moved_on : ℕ → PlanState → PlanState
moved_on now s = record s { moment = now }

-- the timeline's base is the value, told at the present
abbrev pub told_now : ℕ → ℤ → PlanState → PlanState
told_now line value s = record s { bases = slice_set s.bases line (Some (pos s.moment, value)) }

abbrev pub committed_to : ℕ → PlanState → PlanState
committed_to h s = record s { committed = h }

-- the end of the activity of this id is measured
abbrev pub measured_to : ℕ → ℕ → PlanState → PlanState
measured_to id moment s = record s { plan = record { activities = with_end id moment s.plan.activities } }

-- what starts after the present is committed no longer
abbrev pub withdrawn : PlanState → PlanState
withdrawn s = record s { committed = min s.committed (s.moment + 1) }

abbrev pub with_next : ℕ → PlanState → PlanState
with_next id s = record s { next_id = id }

-- ---- what is asked of a value that is told

-- from 0 to 10^12 of a level, and below the number of states of a state timeline
abbrev pub CanTell : ℤ → Option Timeline → Type 0
CanTell value None = ⊥
CanTell value (Some (Capacity name most)) = ⊥
CanTell value (Some (Level name least most start)) = IsLevel value
CanTell value (Some (States name states start any steps)) = IsStateOf (length states) value

-- ---- what is asked of a goal that is dropped

-- the goal of this number stands and is open
abbrev pub IsOpenIn : PlanState → ℕ → Type 0
IsOpenIn s n = holds (is_open s) (goal_at s n) ≡ true

-- ---- what is asked of an end that is measured

-- the activity of this id is live, has begun and is committed, and the moment lies behind its start, and at the horizon at the latest
pub record CanMeasure (s : PlanState) (id moment : ℕ) : Type 0 where
  pub a : Activity
  pub here : found s id ≡ Some a
  pub begun : a.start ≤ s.moment
  pub committed : a.start < s.committed
  pub after : a.start < moment
  pub within : moment ≤ s.model.horizon
