-- Looks at one timeline.
use Rattle.std.specs.Prelude.{ℕ, ◌≤◌, List, map, slice_get, IsSome, ◌≢◌, ◌⊎◌}
use Rattle.pl_semantics.specs.declared.plan_state.PlanState.{PlanState}
use Rattle.pl_bounds.specs.Risings.{AreMoments}
use Rattle.pl_bounds.specs.Sides.{limit_of, code_of, moment_of, AreRight}
use Rattle.pl_bounds.specs.declared.outside.Side.{Side}
use Rattle.pl_bounds.specs.declared.outside.Look.{Look}
use Rattle.pl_bounds.specs.declared.outside.Outside.{Outside}

-- the timeline has a limit on this side
abbrev pub IsLimited : PlanState → Side → ℕ → Type 0
IsLimited s side line = IsSome (limit_of side (slice_get s.model.timelines line))

-- right ones by rising moments, all before the next one
pub record AreLooksAt (s : PlanState) (side : Side) (line next : ℕ) (looks : List Look) : Type 0 where
  pub rising : AreMoments s.moment next (map moment_of looks)
  pub right : AreRight s side line looks
  pub begun : s.moment ≤ next
  pub within : next ≤ s.model.horizon

-- of another timeline than this one, or on another side
abbrev pub IsElse : Side → ℕ → Outside → Type 0
IsElse side line o = (o.line ≢ line) ⊎ (code_of o.side ≢ code_of side)
