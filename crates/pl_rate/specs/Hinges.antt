-- What hinges of all levels add to one of them, and what is put behind them.
use Rattle.std.specs.Prelude.{◌≡◌, ℕ, ◌-◌, ◌==◌, min, ◌&&◌, true, false, ℤ, pos, neg_ℤ, ◌+ℤ◌, ◌*ℤ◌, ◌≤ℤ◌, List, [], ◌++◌, map, Option, Some, IsSome, is_none, All, if◌then◌else◌}
use Rattle.pl_model.specs.declared.reservations.Reservation.{Reservation}
use Rattle.pl_model.specs.declared.reservations.Reservation.TheVariants.{Take, Raise, Lower, Put, Must}
use Rattle.pl_model.specs.declared.timelines.Timeline.{Timeline}
use Rattle.pl_model.specs.declared.timelines.Timeline.TheVariants.{Capacity, Level, States}
use Rattle.pl_points.specs.declared.span.Span.{Span}
use Rattle.pl_points.specs.declared.limit.Limit.{Limit}
use Rattle.pl_points.specs.declared.limit.Limit.TheVariants.{Below, Above}
use Rattle.pl_points.specs.Sums.{total}
use Rattle.pl_points.specs.Spans.{spans_of}
use Rattle.pl_points.specs.Limits.{is_outside}
use Rattle.pl_facts.specs.Bases.{base_of}
use Rattle.pl_level.specs.Effects.{counted}
use Rattle.pl_plan.specs.declared.activity.Activity.{Activity}
use Rattle.pl_plan.specs.State.{PlanValue}
use Rattle.pl_plan.specs.Values.{Row}
use Rattle.pl_plan.specs.Index.{is_number}
use Rattle.pl_model.specs.declared.whole.Model.{Model}
use Rattle.pl_semantics.specs.declared.plan_state.PlanState.{PlanState}
use Rattle.pl_semantics.specs.declared.demand.Demand.{Demand}
use Rattle.pl_semantics.specs.Demands.{moment_of_base, value_of_base, since, asked_of, effect_in, effects_of, demands_at}
use Rattle.pl_detect.specs.Amounts.{asked_by}
use Rattle.pl_rate.specs.declared.hinge.Hinge.{Hinge}
use Rattle.pl_rate.specs.declared.rate.Rate.{Rate}
use Rattle.pl_rate.specs.declared.outside.Outside.{Outside}
use Rattle.pl_rate.specs.Courses.{added_by, IsFlat}
use Rattle.pl_rate.specs.Fores.{moments_with, is_running, run, outside}

-- what a hinge adds to the level of this number by a moment
abbrev pub added_on : ℕ → ℕ → Hinge → ℤ
added_on line t h = if h.line == line then added_by t h else pos 0

abbrev pub sum_on : List Hinge → ℕ → ℕ → ℤ
sum_on hs line t = total (added_on line t) hs

-- what is added, by level and moment
abbrev pub Gain : Type 0
Gain = ℕ → ℕ → ℤ

-- by the hinges that were put behind others, all of them flat
pub record Gains (old new : List Hinge) (gain : Gain) : Type 0 where
  pub sums : (line t : ℕ) → sum_on new line t ≡ sum_on old line t +ℤ gain line t
  pub flat : All IsFlat old → All IsFlat new

-- ---- what is gained

-- to one level alone
abbrev pub gain_on : ℕ → (ℕ → ℤ) → Gain
gain_on level gain line t = if level == line then gain t else pos 0

-- a change for each moment after one and up to another
abbrev pub run_over : ℕ → ℕ → ℤ → ℕ → ℤ
run_over from end change t = change *ℤ pos (min t end - from)

abbrev pub since_of : List (Option (ℤ × ℤ)) → ℕ → ℕ
since_of bases line = moment_of_base (base_of line bases)

-- by what is asked for
abbrev pub asked_gain : List (Option (ℤ × ℤ)) → Demand → Gain
asked_gain bases d line t = total (counted (since_of bases line) t) (asked_of effect_in line d)

-- by a reservation, where the amounts of all are these
abbrev pub reserved_gain : List (Option (ℤ × ℤ)) → ℕ → ℕ → ℕ → Row → ℕ × Reservation → Gain
reserved_gain bases id start end amounts x = asked_gain bases (asked_by id start end amounts x)

-- by a rate, where an activity of a kind is firm and lasts from a start to an end
abbrev pub rate_gain : List (Option (ℤ × ℤ)) → ℕ → ℕ → ℕ → Rate → Gain
rate_gain bases kind start end r line t =
    if (r.level == line) && is_number kind r.kind then r.change *ℤ pos (moments_with (is_running start (Some end)) (since_of bases line) t) else pos 0

-- by a drift before the horizon
abbrev pub drift_gain : List (Option (ℤ × ℤ)) → ℕ → Rate → Gain
drift_gain bases horizon r line t = if (r.level == line) && is_none r.kind then run_over (since_of bases line) horizon r.change t else pos 0

-- by an activity: its effects and its rates
abbrev pub activity_gain : PlanState → List Rate → Activity → Gain
activity_gain s rates a line t = total (counted (since s line) t) (effects_of line (demands_at s a)) +ℤ total (λ r. run s line t r a) rates

-- ---- what is asked of bases, rates and reservations

abbrev pub IsChange : ℤ → Type 0
IsChange change = (neg_ℤ (pos 1000000) ≤ℤ change) × (change ≤ℤ pos 1000000)

-- the change is in range, and the level has a base
abbrev pub IsUsable : List (Option (ℤ × ℤ)) → Rate → Type 0
IsUsable bases r = IsChange r.change × IsSome (base_of r.level bases)

-- so has the level of an effect
abbrev pub IsBased : List (Option (ℤ × ℤ)) → Reservation → Type 0
IsBased bases (Take line e) = Unit {0}
IsBased bases (Raise line e point) = IsSome (base_of line bases)
IsBased bases (Lower line e point) = IsSome (base_of line bases)
IsBased bases (Put line state point) = Unit {0}
IsBased bases (Must line state) = Unit {0}

-- ---- the plan state

-- one of this model, this plan and these bases at this moment: a forecast looks at nothing else
abbrev pub seen : Model → PlanValue → List (Option (ℤ × ℤ)) → ℕ → PlanState
seen model plan bases now = record { model = model; plan = plan; goals = []; bases = bases; moment = now; committed = 0; next_id = 0; live_limit = 0 }

-- ---- by hinges alone

-- the level of this number at a moment
abbrev pub level_by : List Hinge → List (Option (ℤ × ℤ)) → ℕ → ℕ → ℤ
level_by hs bases line t = value_of_base (base_of line bases) +ℤ sum_on hs line t

abbrev pub spans_by : List Hinge → List (Option (ℤ × ℤ)) → Span → ℕ → Limit → List Span
spans_by hs bases window line limit = spans_of (λ t. is_outside limit (level_by hs bases line t)) window.from (window.to - window.from)

abbrev pub lows_by : List Hinge → List (Option (ℤ × ℤ)) → Span → ℕ → ℤ → List Outside
lows_by hs bases window line least = map (outside line false) (spans_by hs bases window line (Below least))

abbrev pub highs_by : List Hinge → List (Option (ℤ × ℤ)) → Span → ℕ → ℤ → List Outside
highs_by hs bases window line most = map (outside line true) (spans_by hs bases window line (Above most))

abbrev pub outsides_by : List Hinge → List (Option (ℤ × ℤ)) → Span → ℕ × Timeline → List Outside
outsides_by hs bases window (line, Capacity name most) = []
outsides_by hs bases window (line, Level name least most start) = lows_by hs bases window line least ++ highs_by hs bases window line most
outsides_by hs bases window (line, States name states start any steps) = []

abbrev pub IsBasedLine : List (Option (ℤ × ℤ)) → ℕ → Timeline → Type 0
IsBasedLine bases line (Capacity name most) = Unit {0}
IsBasedLine bases line (Level name least most start) = IsSome (base_of line bases)
IsBasedLine bases line (States name states start any steps) = Unit {0}
