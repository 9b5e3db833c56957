-- What firm activities ask of timelines, and what timelines come to. A timeline has its number over all sorts.
use Rattle.std.specs.Prelude.{ℕ, ◌==◌, ℤ, pos, negsuc, neg_ℤ, ◌+ℤ◌, List, [], ◌∷◌, map, Option, Some, None, unwrap_or, if◌then◌else◌}
use Rattle.std.specs.List.{flat_map, fold}
use Rattle.pl_model.specs.declared.expressions.Expr.{Expr}
use Rattle.pl_model.specs.declared.reservations.Reservation.{Reservation}
use Rattle.pl_model.specs.declared.reservations.Reservation.TheVariants as reservation
use Rattle.pl_model.specs.Values.{value_of}
use Rattle.pl_plan.specs.declared.activity.Activity.{Activity}
use Rattle.pl_plan.specs.Values.{Row}
use Rattle.pl_plan.specs.Firm.{amount_with}
use Rattle.pl_points.specs.Sums.{total}
use Rattle.pl_capacity.specs.declared.reservation.Use.{Use}
use Rattle.pl_capacity.specs.Uses.{use_of, used}
use Rattle.pl_level.specs.declared.reservation.Effect.{Effect}
use Rattle.pl_level.specs.Effects.{effect_of, counted}
use Rattle.pl_links.specs.Broken.{point_of}
use Rattle.pl_state.specs.declared.reservation.Setting.{Setting}
use Rattle.pl_state.specs.declared.reservation.Must.{Must}
use Rattle.pl_state.specs.Sets.{setting_of, with_set, state_from}
use Rattle.pl_state.specs.Musts.{must_of, with_must}
use Rattle.pl_facts.specs.Bases.{base_of}
use Rattle.pl_semantics.specs.declared.plan_state.PlanState.{PlanState}
use Rattle.pl_semantics.specs.declared.demand.Demand.{Demand}
use Rattle.pl_semantics.specs.declared.demand.Asked.{Asked}
use Rattle.pl_semantics.specs.declared.demand.Asked.TheVariants as asked
use Rattle.pl_semantics.specs.PlanStates.{row_of, end_at, reservations_of, natural, of_found}

-- ---- what one activity asks for

-- the value of an amount, which each amount of a firm activity has
abbrev pub amount_in : Row → Expr → ℤ
amount_in values e = unwrap_or (value_of e values) (pos 0)

abbrev pub demand_of : ℕ → Asked → Demand
demand_of line what = record { line = line; asked = what }

-- A reservation of an activity from a start to an end, by its amount, with its number and the activity's id. A capacity is used from
-- the start up to but not at the end; a level is raised or lowered, and a state set, at a point; a state is needed from the start up
-- to but not at the end.
abbrev pub asked_with : ℕ → ℕ → ℕ → Option ℤ → ℕ × Reservation → Demand
asked_with id start end amount (n, reservation.Take line e) = demand_of line (asked.Use (use_of start end (unwrap_or amount (pos 0))))
asked_with id start end amount (n, reservation.Raise line e point) = demand_of line (asked.Effect (effect_of (point_of point start end) (unwrap_or amount (pos 0))))
asked_with id start end amount (n, reservation.Lower line e point) = demand_of line (asked.Effect (effect_of (point_of point start end) (neg_ℤ (unwrap_or amount (pos 0)))))
asked_with id start end amount (n, reservation.Put line state point) = demand_of line (asked.Set (setting_of (point_of point start end) id n state))
asked_with id start end amount (n, reservation.Must line state) = demand_of line (asked.Must (must_of start end id n state))

-- the same by the activity's values
abbrev pub asked_for : ℕ → ℕ → ℕ → Row → ℕ × Reservation → Demand
asked_for id start end values x = asked_with id start end (amount_with values x.1) x

abbrev pub demands_until : PlanState → Activity → ℕ → List Demand
demands_until s a end = map (asked_for a.id a.start end (row_of s a)) (reservations_of s a)

-- nothing where it is not firm
unfoldable pub demands_at : PlanState → Activity → List Demand
demands_at s a = of_found (demands_until s a) (end_at s a)

-- what all ask for, by id and then by reservation
abbrev pub demands_of : PlanState → List Demand
demands_of s = flat_map (demands_at s) s.plan.activities

-- ---- what is asked of one timeline

abbrev pub asked_of : {X : Type 0} → (Asked → List X) → ℕ → Demand → List X
asked_of what line d = if d.line == line then what d.asked else []

abbrev pub use_in : Asked → List Use
use_in (asked.Use u) = u ∷ []
use_in (asked.Effect e) = []
use_in (asked.Set x) = []
use_in (asked.Must m) = []

abbrev pub effect_in : Asked → List Effect
effect_in (asked.Use u) = []
effect_in (asked.Effect e) = e ∷ []
effect_in (asked.Set x) = []
effect_in (asked.Must m) = []

abbrev pub set_in : Asked → List Setting
set_in (asked.Use u) = []
set_in (asked.Effect e) = []
set_in (asked.Set x) = x ∷ []
set_in (asked.Must m) = []

abbrev pub must_in : Asked → List Must
must_in (asked.Use u) = []
must_in (asked.Effect e) = []
must_in (asked.Set x) = []
must_in (asked.Must m) = m ∷ []

abbrev pub uses_of : ℕ → List Demand → List Use
uses_of line ds = flat_map (asked_of use_in line) ds

abbrev pub effects_of : ℕ → List Demand → List Effect
effects_of line ds = flat_map (asked_of effect_in line) ds

-- by moment, then by activity and reservation
abbrev pub sets_of : ℕ → List Demand → List Setting
sets_of line ds = fold (λ sorted x. with_set x sorted) [] (flat_map (asked_of set_in line) ds)

-- by activity and reservation
abbrev pub musts_of : ℕ → List Demand → List Must
musts_of line ds = fold (λ sorted m. with_must m sorted) [] (flat_map (asked_of must_in line) ds)

-- ---- the latest telemetry

-- The moment of a base, which is -1 before any telemetry. Every effect lies at 1 or later, so it is after 0 exactly where it is after -1.
abbrev pub moment_of_base : Option (ℤ × ℤ) → ℕ
moment_of_base None = 0
moment_of_base (Some (pos n, v)) = n
moment_of_base (Some (negsuc n, v)) = 0

abbrev pub value_of_base : Option (ℤ × ℤ) → ℤ
value_of_base None = pos 0
value_of_base (Some (at, v)) = v

abbrev pub since : PlanState → ℕ → ℕ
since s line = moment_of_base (base_of line s.bases)

abbrev pub told : PlanState → ℕ → ℤ
told s line = value_of_base (base_of line s.bases)

-- ---- values at a moment

-- the sum of the amounts in use
unfoldable pub use_at : PlanState → ℕ → ℕ → ℤ
use_at s line t = used (uses_of line (demands_of s)) t

-- the base's value and all effects after the base's moment up to this one
unfoldable pub level_at : PlanState → ℕ → ℕ → ℤ
level_at s line t = told s line +ℤ total (counted (since s line) t) (effects_of line (demands_of s))

-- what the last set after the base's moment up to this one left, else the base's value
unfoldable pub state_at : PlanState → ℕ → ℕ → ℕ
state_at s line t = state_from (since s line) t (natural (told s line)) (sets_of line (demands_of s))
