-- What is computed anew from a plan state.
use Rattle.std.specs.Prelude.{ℕ, ◌≤◌, ◌<◌, ℤ, pos, Option, Some, None, IsSome, slice_get}
use Rattle.pl_model.specs.declared.timelines.Timeline.{Timeline}
use Rattle.pl_model.specs.declared.timelines.Timeline.TheVariants.{Capacity, Level, States}
use Rattle.pl_semantics.specs.declared.plan_state.PlanState.{PlanState}
use Rattle.pl_semantics.specs.Demands.{use_at, level_at, state_at}

-- what a timeline of this sort comes to at a moment: what is in use of a capacity, a level, or the number of a state
abbrev pub value_of : PlanState → ℕ → ℕ → Option Timeline → ℤ
value_of s line t None = pos 0
value_of s line t (Some (Capacity name most)) = use_at s line t
value_of s line t (Some (Level name least most start)) = level_at s line t
value_of s line t (Some (States name all start any steps)) = pos (state_at s line t)

-- what the timeline of this number comes to at a moment
abbrev pub value_at : PlanState → ℕ → ℕ → ℤ
value_at s line t = value_of s line t (slice_get s.model.timelines line)

-- There is a timeline of this number, and the moment lies at the present or later, before the horizon.
pub record IsAhead (s : PlanState) (line t : ℕ) : Type 0 where
  pub timeline : IsSome (slice_get s.model.timelines line)
  pub now : s.moment ≤ t
  pub before_horizon : t < s.model.horizon
