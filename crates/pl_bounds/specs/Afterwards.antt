-- What a timeline comes to once some demands went and others came.
use Rattle.std.specs.Prelude.{ℕ, ◌+◌, ◌==◌, ℤ, pos, ◌+ℤ◌, ◌-ℤ◌, Bool, List, [], ◌∷◌, map, length, if◌then◌else◌}
use Rattle.pl_capacity.specs.declared.reservation.Use.{Use}
use Rattle.pl_capacity.specs.Uses.{taken_at}
use Rattle.pl_level.specs.declared.reservation.Effect.{Effect}
use Rattle.pl_level.specs.Effects.{counted}
use Rattle.pl_points.specs.Sums.{total}
use Rattle.pl_semantics.specs.declared.demand.Demand.{Demand}
use Rattle.pl_semantics.specs.declared.demand.Asked.{Asked}
use Rattle.pl_semantics.specs.declared.demand.Asked.TheVariants as asked
use Rattle.pl_semantics.specs.declared.plan_state.PlanState.{PlanState}
use Rattle.pl_semantics.specs.Timelines.{spans_ahead}
use Rattle.pl_bounds.specs.Moved.{demand_moved}
use Rattle.pl_bounds.specs.Sides.{value_at, is_past}
use Rattle.pl_bounds.specs.declared.asking.Asking.{Asking}
use Rattle.pl_bounds.specs.declared.outside.Side.{Side}
use Rattle.pl_bounds.specs.declared.outside.Side.TheVariants.{Over, Low, High}
use Rattle.pl_bounds.specs.declared.outside.Outside.{Outside}
use Rattle.pl_bounds.specs.declared.stepwise.Way.{Way}

-- uses count where a capacity is looked at, and effects where a level is
abbrev pub use_on : Side → ℕ → Use → ℤ
use_on Over t u = taken_at t u
use_on Low t u = pos 0
use_on High t u = pos 0

abbrev pub effect_on : Side → ℕ → ℕ → Effect → ℤ
effect_on Over base t e = pos 0
effect_on Low base t e = counted base t e
effect_on High base t e = counted base t e

abbrev pub asked_on : Side → ℕ → ℕ → Asked → ℤ
asked_on side base t (asked.Use u) = use_on side t u
asked_on side base t (asked.Effect e) = effect_on side base t e
asked_on side base t (asked.Set x) = pos 0
asked_on side base t (asked.Must m) = pos 0

-- what a demand makes of the timeline at a moment
abbrev pub pull_of : Outside → ℕ → Demand → ℤ
pull_of o t d = if d.line == o.line then asked_on o.side o.since t d.asked else pos 0

-- what demands make of it
abbrev pub pull : Outside → ℕ → List Demand → ℤ
pull o t ds = total (pull_of o t) ds

-- demands, moved along
abbrev pub moved_by : Way → List Demand → List Demand
moved_by w ds = map (demand_moved w.from w.to) ds

-- what comes, as it stands at a start
abbrev pub coming_at : Asking → ℕ → List Demand
coming_at a start = map (demand_moved a.start start) a.coming.items

-- what the timeline comes to, where it came to this value before
abbrev pub value_with : Outside → List Demand → List Demand → ℕ → ℤ → ℤ
value_with o going coming t value = (value -ℤ pull o t going) +ℤ pull o t coming

-- whether it is past its limit then
abbrev pub is_past_with : PlanState → Outside → List Demand → List Demand → ℕ → Bool
is_past_with s o going coming t = is_past o.side o.limit (value_with o going coming t (value_at s o.side o.line t))

-- how often all of them are past their limits then
abbrev pub times_with : PlanState → Asking → ℕ → List Outside → ℕ
times_with s a start [] = 0
times_with s a start (o ∷ more) = length (spans_ahead s (is_past_with s o a.going.items (coming_at a start))) + times_with s a start more
