-- Timelines and their limits, each looked at at some moments.
use Rattle.std.specs.Prelude.{◌≡◌, ◌≢◌, ◌⊎◌, ℕ, ◌+◌, ◌≤◌, ℤ, int_lt, Bool, List, [], ◌∷◌, map, length, slice_get, Option, Some, None, AllPairs}
use Rattle.pl_conflict.specs.declared.conflict.Code.{Code}
use Rattle.pl_conflict.specs.declared.conflict.Code.TheVariants as code
use Rattle.pl_model.specs.declared.timelines.Timeline.{Timeline}
use Rattle.pl_model.specs.declared.timelines.Timeline.TheVariants.{Capacity, Level}
use Rattle.pl_points.specs.declared.span.Span.{Span}
use Rattle.pl_semantics.specs.declared.plan_state.PlanState.{PlanState}
use Rattle.pl_semantics.specs.Demands.{use_at, level_at, since}
use Rattle.pl_semantics.specs.Timelines.{spans_ahead}
use Rattle.pl_bounds.specs.Risings.{AreMoments}
use Rattle.pl_bounds.specs.declared.outside.Side.{Side}
use Rattle.pl_bounds.specs.declared.outside.Side.TheVariants.{Over, Low, High}
use Rattle.pl_bounds.specs.declared.outside.Look.{Look}
use Rattle.pl_bounds.specs.declared.outside.Outside.{Outside}

-- the limit of a timeline on a side, where it has one
abbrev pub limit_of : Side → Option Timeline → Option ℤ
limit_of Over (Some (Capacity name most)) = Some most
limit_of Low (Some (Level name least most start)) = Some least
limit_of High (Some (Level name least most start)) = Some most
limit_of _ _ = None

-- what the timeline comes to
abbrev pub value_at : PlanState → Side → ℕ → ℕ → ℤ
value_at s Over line t = use_at s line t
value_at s Low line t = level_at s line t
value_at s High line t = level_at s line t

-- whether a value is past the limit
abbrev pub is_past : Side → ℤ → ℤ → Bool
is_past Over limit v = int_lt limit v
is_past Low limit v = int_lt v limit
is_past High limit v = int_lt limit v

-- the code of its conflicts
abbrev pub code_of : Side → Code
code_of Over = code.Over
code_of Low = code.Low
code_of High = code.High

abbrev pub moment_of : Look → ℕ
moment_of l = l.at

-- each look has what the timeline comes to at its moment
abbrev pub AreRight : PlanState → Side → ℕ → List Look → Type 0
AreRight s side line [] = Unit {0}
AreRight s side line (l ∷ more) = (l.value ≡ value_at s side line l.at) × AreRight s side line more

-- it has the limit of its timeline
abbrev pub HasLimit : PlanState → Outside → Type 0
HasLimit s o = limit_of o.side (slice_get s.model.timelines o.line) ≡ Some o.limit

-- the maximal spans at which it is past its limit
abbrev pub spans_past : PlanState → Outside → List Span
spans_past s o = spans_ahead s (λ t. is_past o.side o.limit (value_at s o.side o.line t))

-- All that it holds is right in this plan: its limit, from when on effects count, its looks, which stand by rising moments, and how often it is
-- past its limit at least.
pub record IsOutsideOf (s : PlanState) (o : Outside) : Type 0 where
  pub limit : HasLimit s o
  pub since : o.since ≡ since s o.line
  pub moments : AreMoments s.moment s.model.horizon (map moment_of o.looks.items)
  pub right : AreRight s o.side o.line o.looks.items
  pub times : o.times ≤ length (spans_past s o)

-- how often all of them are
abbrev pub times_past : PlanState → List Outside → ℕ
times_past s [] = 0
times_past s (o ∷ more) = length (spans_past s o) + times_past s more

-- of another timeline, or on another side
abbrev pub IsOther : Outside → Outside → Type 0
IsOther one other = (one.line ≢ other.line) ⊎ (code_of one.side ≢ code_of other.side)

abbrev pub AreDifferent : List Outside → Type 0
AreDifferent all = AllPairs IsOther all
