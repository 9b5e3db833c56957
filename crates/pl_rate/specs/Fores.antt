-- What levels come to by rates, moment by moment, and the forecast: where this is outside their limits.
use Rattle.std.specs.Prelude.{◌≡◌, ℕ, zero, suc, ◌+◌, nat_lt, nat_le, ◌==◌, ◌&&◌, Bool, true, false, ℤ, pos, int_lt, ◌+ℤ◌, ◌*ℤ◌, List, [], ◌++◌, map, slice_get, Option, Some, None, IsSome, is_none, if◌then◌else◌}
use Rattle.std.specs.List.{flat_map}
use Rattle.pl_model.specs.declared.timelines.Timeline.{Timeline}
use Rattle.pl_model.specs.declared.timelines.Timeline.TheVariants.{Capacity, Level, States}
use Rattle.pl_model.specs.declared.whole.Model.{Model}
use Rattle.pl_model.specs.Checked.{IsLevelLine}
use Rattle.pl_facts.specs.Bases.{AreBasesOf, base_of}
use Rattle.pl_points.specs.declared.span.Span.{Span}
use Rattle.pl_points.specs.Sums.{total}
use Rattle.pl_plan.specs.declared.activity.Activity.{Activity}
use Rattle.pl_plan.specs.State.{PlanValue}
use Rattle.pl_plan.specs.Index.{is_number}
use Rattle.pl_semantics.specs.declared.plan_state.PlanState.{PlanState}
use Rattle.pl_semantics.specs.PlanStates.{end_at}
use Rattle.pl_semantics.specs.Whole.{IsWhole}
use Rattle.pl_semantics.specs.Demands.{since, level_at}
use Rattle.pl_semantics.specs.Timelines.{spans_ahead, lines_of}
use Rattle.pl_rate.specs.declared.rate.Rate.{Rate}
use Rattle.pl_rate.specs.declared.outside.Outside.{Outside}

-- ---- moments

-- how many moments after the first number, up to the second, pass the test
abbrev pub moments_with : (ℕ → Bool) → ℕ → ℕ → ℕ
moments_with test low zero = 0
moments_with test low (suc t) = (if nat_lt low (suc t) && test (suc t) then 1 else 0) + moments_with test low t

abbrev pub each_moment : ℕ → Bool
each_moment u = true

-- after its start and up to its end: never, where it is not firm and has no end
abbrev pub is_running : ℕ → Option ℕ → ℕ → Bool
is_running start None u = false
is_running start (Some end) u = nat_lt start u && nat_le u end

-- ---- what rates add to a level by a moment: their change for each moment after the base's

-- a drift, for each moment
abbrev pub drifted : PlanState → ℕ → ℕ → Rate → ℤ
drifted s line t r =
    if (r.level == line) && is_none r.kind then r.change *ℤ pos (moments_with each_moment (since s line) t) else pos 0

-- a rate of a kind, for each moment of a firm activity of this kind
abbrev pub run : PlanState → ℕ → ℕ → Rate → Activity → ℤ
run s line t r a =
    if (r.level == line) && is_number a.kind r.kind then r.change *ℤ pos (moments_with (is_running a.start (end_at s a)) (since s line) t) else pos 0

abbrev pub runs : PlanState → ℕ → ℕ → Rate → ℤ
runs s line t r = total (run s line t r) s.plan.activities

-- The level of this number at a moment: what effects make of it, and what drifts and rates of kinds add. Several rates add up.
abbrev pub fore : PlanState → List Rate → ℕ → ℕ → ℤ
fore s rates line t = level_at s line t +ℤ (total (drifted s line t) rates +ℤ total (runs s line t) rates)

-- ---- the forecast

abbrev pub outside : ℕ → Bool → Span → Outside
outside line high p = record { level = line; high = high; from = p.from; to = p.to }

-- the maximal spans from the present up to the horizon in which it is below its least
abbrev pub lows : PlanState → List Rate → ℕ → ℤ → List Outside
lows s rates line least = map (outside line false) (spans_ahead s (λ t. int_lt (fore s rates line t) least))

-- and those in which it is above its most
abbrev pub highs : PlanState → List Rate → ℕ → ℤ → List Outside
highs s rates line most = map (outside line true) (spans_ahead s (λ t. int_lt most (fore s rates line t)))

abbrev pub outsides : PlanState → List Rate → ℕ × Timeline → List Outside
outsides s rates (line, Capacity name most) = []
outsides s rates (line, Level name least most start) = lows s rates line least ++ highs s rates line most
outsides s rates (line, States name states start any steps) = []

-- of all levels, by number
unfoldable pub forecast_of : PlanState → List Rate → List Outside
forecast_of s rates = flat_map (outsides s rates) (lines_of s)

-- ---- what a forecast asks for

-- each level of the model has a base, as in bases that were made for the model
abbrev pub AreBased : Model → List (Option (ℤ × ℤ)) → Type 0
AreBased model bases = (line : ℕ) → IsLevelLine (slice_get model.timelines line) → IsSome (base_of line bases)

abbrev pub AreBasedAsMade : Type 0
AreBasedAsMade = (model : Model) (bases : List (Option (ℤ × ℤ))) → AreBasesOf model bases → AreBased model bases

-- so have those of a board
abbrev pub AreBasedAsKept : Type 0
AreBasedAsKept = (s : PlanState) → IsWhole s → AreBased s.model s.bases

-- ---- the plan state

-- The plan state has this model, this plan, these bases and this present. A forecast looks at nothing else of it.
pub record Has (s : PlanState) (model : Model) (plan : PlanValue) (bases : List (Option (ℤ × ℤ))) (now : ℕ) : Type 0 where
  pub of_model : s.model ≡ model
  pub of_plan : s.plan ≡ plan
  pub of_bases : s.bases ≡ bases
  pub at : s.moment ≡ now
