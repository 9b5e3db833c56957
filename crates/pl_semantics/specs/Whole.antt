-- What holds of each plan state that a board keeps.
use Rattle.std.specs.Prelude.{◌≡◌, ℕ, ◌<◌, ◌≤◌, ℤ, pos, negsuc, ◌≤ℤ◌, List, All, length, slice_get, Option, Some, None, IfSome, IsSome}
use Rattle.pl_model.specs.declared.timelines.Timeline.{Timeline}
use Rattle.pl_model.specs.declared.timelines.Timeline.TheVariants.{Capacity, Level, States}
use Rattle.pl_model.specs.declared.whole.Model.{Model}
use Rattle.pl_model.specs.Checked.{IsChecked, IsLevel, params_of}
use Rattle.pl_facts.specs.declared.goal.Goal.{Goal}
use Rattle.pl_facts.specs.Goals.{AreDistinct, goal_of}
use Rattle.pl_facts.specs.Bases.{base_of}
use Rattle.pl_plan.specs.declared.activity.Activity.{Activity}
use Rattle.pl_plan.specs.Activities.{AreRising}
use Rattle.pl_plan.specs.Fitting.{Fits}
use Rattle.pl_semantics.specs.declared.plan_state.PlanState.{PlanState}

-- a goal's kind is one of the model's, its window ends before the horizon, and it has a place for each parameter of its kind
pub record IsGoalOf (model : Model) (g : Goal) : Type 0 where
  pub kind : g.kind < length model.kinds
  pub ordered : g.earliest ≤ g.latest
  pub before : g.latest < model.horizon
  pub presets : length g.presets ≡ length (params_of (slice_get model.kinds g.kind))

-- the goal that an activity carries is one of these
abbrev pub IsCarried : List Goal → Activity → Type 0
IsCarried goals a = IfSome a.goal (λ n. IsSome (goal_of n goals))

-- the number of one of so many states
abbrev pub IsStateOf : ℕ → ℤ → Type 0
IsStateOf states (pos n) = n < states
IsStateOf states (negsuc n) = ⊥

-- Below the number of states, of a state timeline; from 0 to 10^12, of a level. A capacity has no base.
abbrev pub IsBase : ℕ → Timeline → Option (ℤ × ℤ) → Type 0
IsBase moment (Capacity name most) base = base ≡ None
IsBase moment (Level name least most start) None = ⊥
IsBase moment (Level name least most start) (Some (at, v)) = (at ≤ℤ pos moment) × IsLevel v
IsBase moment (States name states start any steps) None = ⊥
IsBase moment (States name states start any steps) (Some (at, v)) = (at ≤ℤ pos moment) × IsStateOf (length states) v

-- each level and state timeline has a base, told at the present or before
abbrev pub AreBasesAt : Model → ℕ → List (Option (ℤ × ℤ)) → Type 0
AreBasesAt model moment bases = (line : ℕ) (t : Timeline) → slice_get model.timelines line ≡ Some t → IsBase moment t (base_of line bases)

-- an id that was given
abbrev pub IsIdBelow : ℕ → Activity → Type 0
IsIdBelow next a = (1 ≤ a.id) × (a.id < next)

-- where its end was measured, it has begun and is committed
abbrev pub HasBegun : ℕ → ℕ → Activity → Type 0
HasBegun moment committed a = IfSome a.measured (λ end. (a.start ≤ moment) × (a.start < committed))

pub record IsWhole (s : PlanState) : Type 0 where
  pub checked : IsChecked s.model
  pub rising : AreRising s.plan.activities
  pub fits : Fits s.model s.plan.activities
  pub goals : All (IsGoalOf s.model) s.goals
  pub distinct : AreDistinct s.goals
  pub carried : All (IsCarried s.goals) s.plan.activities
  pub bases : AreBasesAt s.model s.moment s.bases
  pub present : s.moment ≤ s.model.horizon
  pub horizon : s.committed ≤ s.model.horizon
  pub ids : All (IsIdBelow s.next_id) s.plan.activities
  pub next : (1 ≤ s.next_id) × (s.next_id ≤ 4000000001)
  pub limit : s.live_limit ≤ 10000
  pub live : length s.plan.activities ≤ s.live_limit
  pub begun : All (HasBegun s.moment s.committed) s.plan.activities
