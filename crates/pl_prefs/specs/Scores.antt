-- How well a plan meets what is preferred: its score, one sum over preferences and activities.
use Rattle.std.specs.Prelude.{ℕ, ◌-◌, ◌==◌, nat_lt, ℤ, pos, ◌-ℤ◌, ◌*ℤ◌, List, slice_index_or, None, unwrap_or, if◌then◌else◌}
use Rattle.pl_points.specs.Sums.{total}
use Rattle.pl_plan.specs.declared.activity.Activity.{Activity}
use Rattle.pl_semantics.specs.declared.plan_state.PlanState.{PlanState}
use Rattle.pl_semantics.specs.PlanStates.{row_of}
use Rattle.pl_semantics.specs.Demands.{level_at}
use Rattle.pl_prefs.specs.declared.prefer.Prefer.{Prefer}
use Rattle.pl_prefs.specs.declared.prefer.Prefer.TheVariants.{Early, Late, Value, Level}

-- ---- one activity

-- how many moments before the horizon it starts
abbrev pub earliness : PlanState → Activity → ℤ
earliness s a = pos s.model.horizon -ℤ pos a.start

abbrev pub lateness : Activity → ℤ
lateness a = pos a.start

-- the value of its parameter of this number, or 0 where it has none
abbrev pub value_or_zero : PlanState → ℕ → Activity → ℤ
value_or_zero s param a = unwrap_or (slice_index_or (row_of s a) param None) (pos 0)

-- what each activity of a kind counts, all others counting nothing
abbrev pub of_kind : ℕ → (Activity → ℤ) → Activity → ℤ
of_kind kind worth a = if a.kind == kind then worth a else pos 0

-- ---- one level

-- what it comes to at the last moment before the horizon, or 0 once the present is the horizon
abbrev pub last_level : PlanState → ℕ → ℤ
last_level s line = if nat_lt s.moment s.model.horizon then level_at s line (s.model.horizon - 1) else pos 0

-- ---- the score

-- what one preference counts, over all live activities
abbrev pub score_of : PlanState → Prefer → ℤ
score_of s (Early kind w) = total (of_kind kind (λ a. w *ℤ earliness s a)) s.plan.activities
score_of s (Late kind w) = total (of_kind kind (λ a. w *ℤ lateness a)) s.plan.activities
score_of s (Value kind param w) = total (of_kind kind (λ a. w *ℤ value_or_zero s param a)) s.plan.activities
score_of s (Level line w) = w *ℤ last_level s line

-- what all of them count; one that is given twice counts twice
unfoldable pub score : PlanState → List Prefer → ℤ
score s prefers = total (score_of s) prefers
