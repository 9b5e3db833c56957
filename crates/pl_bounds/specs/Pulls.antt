-- What demands make of a timeline at a moment.
use Rattle.std.specs.Prelude.{ℕ, ℤ, List}
use Rattle.pl_points.specs.Sums.{total}
use Rattle.pl_capacity.specs.Uses.{taken_at}
use Rattle.pl_level.specs.Effects.{counted}
use Rattle.pl_semantics.specs.declared.demand.Demand.{Demand}
use Rattle.pl_semantics.specs.declared.plan_state.PlanState.{PlanState}
use Rattle.pl_semantics.specs.Demands.{since, uses_of, effects_of}

-- how much these take of a capacity
abbrev pub taken_by : ℕ → ℕ → List Demand → ℤ
taken_by line t ds = total (taken_at t) (uses_of line ds)

-- how much these change a level since its base was told
abbrev pub pulled_by : PlanState → ℕ → ℕ → List Demand → ℤ
pulled_by s line t ds = total (counted (since s line) t) (effects_of line ds)
