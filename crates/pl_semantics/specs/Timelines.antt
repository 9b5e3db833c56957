-- Where timelines are outside their limits, where a state is another than is needed, and steps that are not allowed.
use Rattle.std.specs.Prelude.{ℕ, ◌-◌, ℤ, int_lt, Bool, List, ◌++◌, map, slice_get, Option, Some, None}
use Rattle.std.specs.List.{flat_map}
use Rattle.pl_conflict.specs.declared.conflict.Conflict.{Conflict}
use Rattle.pl_conflict.specs.declared.conflict.Code.{Code}
use Rattle.pl_conflict.specs.declared.conflict.Code.TheVariants as code
use Rattle.pl_model.specs.declared.timelines.Timeline.{Timeline}
use Rattle.pl_model.specs.declared.timelines.Timeline.TheVariants.{Capacity, Level, States}
use Rattle.pl_points.specs.declared.span.Span.{Span}
use Rattle.pl_points.specs.Spans.{spans_of}
use Rattle.pl_state.specs.declared.answer.BrokenMust.{BrokenMust}
use Rattle.pl_state.specs.declared.answer.BadSet.{BadSet}
use Rattle.pl_state.specs.Sets.{is_allowed, bad_from}
use Rattle.pl_state.specs.Musts.{broken_all}
use Rattle.pl_plan.specs.declared.activity.Activity.{Activity}
use Rattle.pl_semantics.specs.declared.plan_state.PlanState.{PlanState}
use Rattle.pl_semantics.specs.PlanStates.{found, numbered, natural, of_found}
use Rattle.pl_semantics.specs.Demands.{demands_of, use_at, level_at, state_at, sets_of, musts_of, since, told}

-- ---- capacities and levels

-- the maximal spans from the present up to the horizon at which the property holds
abbrev pub spans_ahead : PlanState → (ℕ → Bool) → List Span
spans_ahead s P = spans_of P s.moment (s.model.horizon - s.moment)

abbrev pub outside : Code → ℕ → Span → Conflict
outside why line p = record { from = p.from; code = why; subject = line; detail = 0; a = p.from; b = p.to }

-- more is in use than the most
abbrev pub overs : PlanState → ℕ → ℤ → List Conflict
overs s line most = map (outside code.Over line) (spans_ahead s (λ t. int_lt most (use_at s line t)))

abbrev pub lows : PlanState → ℕ → ℤ → List Conflict
lows s line least = map (outside code.Low line) (spans_ahead s (λ t. int_lt (level_at s line t) least))

abbrev pub highs : PlanState → ℕ → ℤ → List Conflict
highs s line most = map (outside code.High line) (spans_ahead s (λ t. int_lt most (level_at s line t)))

-- ---- states

-- the start of the activity of this id
abbrev pub start_in : Option Activity → ℕ
start_in None = 0
start_in (Some a) = a.start

abbrev pub start_at : PlanState → ℕ → ℕ
start_at s id = start_in (found s id)

abbrev pub unmet_must : PlanState → BrokenMust → Conflict
unmet_must s m = record { from = start_at s m.id; code = code.Must; subject = m.id; detail = m.index; a = m.from; b = m.to }

-- the state is another than a firm activity needs, from the later of its start and the present to the lesser of its end and the horizon
abbrev pub musts : PlanState → ℕ → List Conflict
musts s line = map (unmet_must s) (broken_all (state_at s line) s.moment s.model.horizon (musts_of line (demands_of s)))

abbrev pub bad_step : PlanState → BadSet → Conflict
bad_step s x = record { from = start_at s x.id; code = code.BadStep; subject = x.id; detail = x.index; a = x.at; b = 0 }

-- a set after the base's moment and before the horizon, not in the past, whose step from the set before it, else from the base, is not allowed
abbrev pub bad_steps : PlanState → ℕ → Bool → List (ℕ × ℕ) → List Conflict
bad_steps s line any steps = map (bad_step s) (bad_from (is_allowed any steps) (since s line) s.model.horizon s.moment (natural (told s line)) (sets_of line (demands_of s)))

-- ---- the part

unfoldable pub line_conflicts : PlanState → ℕ × Timeline → List Conflict
line_conflicts s (line, Capacity name most) = overs s line most
line_conflicts s (line, Level name least most start) = lows s line least ++ highs s line most
line_conflicts s (line, States name states start any steps) = musts s line ++ bad_steps s line any steps

-- the same of the timeline of this number
abbrev pub line_conflicts_of : PlanState → ℕ → List Conflict
line_conflicts_of s line = of_found (λ t. line_conflicts s (line, t)) (slice_get s.model.timelines line)

-- the timelines of the model, each with its number
abbrev pub lines_of : PlanState → List (ℕ × Timeline)
lines_of s = numbered 0 s.model.timelines

abbrev pub timeline_conflicts : PlanState → List Conflict
timeline_conflicts s = flat_map (line_conflicts s) (lines_of s)
