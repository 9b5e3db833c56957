-- The score by activities: what each one counts by itself, and what the bases of levels count. So what a move does to the score is
-- seen from the activities that it changes.
use Rattle.std.specs.Prelude.{ℕ, ◌-◌, nat_lt, ℤ, pos, ◌-ℤ◌, ◌+ℤ◌, ◌*ℤ◌, List, if◌then◌else◌}
use Rattle.pl_points.specs.Sums.{total}
use Rattle.pl_level.specs.Effects.{counted}
use Rattle.pl_plan.specs.declared.activity.Activity.{Activity}
use Rattle.pl_plan.specs.declared.repair.RepairMove.{RepairMove}
use Rattle.pl_semantics.specs.declared.plan_state.PlanState.{PlanState}
use Rattle.pl_semantics.specs.Demands.{since, told, demands_at, effects_of}
use Rattle.pl_prefs.specs.declared.prefer.Prefer.{Prefer}
use Rattle.pl_prefs.specs.declared.prefer.Prefer.TheVariants.{Early, Late, Value, Level}
use Rattle.pl_prefs.specs.Scores.{earliness, lateness, value_or_zero, of_kind, score}
use Rattle.pl_prefs.specs.Betters.{score_after}

-- nothing once the present is the horizon
abbrev pub while_ahead : PlanState → ℤ → ℤ
while_ahead s z = if nat_lt s.moment s.model.horizon then z else pos 0

-- what its effects add to a level by the last moment before the horizon
abbrev pub level_share : PlanState → ℕ → Activity → ℤ
level_share s line a = total (counted (since s line) (s.model.horizon - 1)) (effects_of line (demands_at s a))

-- what one activity counts for a preference of its kind, by its start and its values; nothing for a level
abbrev pub share_of : PlanState → Prefer → Activity → ℤ
share_of s (Early kind w) = of_kind kind (λ a. w *ℤ earliness s a)
share_of s (Late kind w) = of_kind kind (λ a. w *ℤ lateness a)
share_of s (Value kind param w) = of_kind kind (λ a. w *ℤ value_or_zero s param a)
share_of s (Level line w) = λ a. pos 0

-- what it counts for one preference, by its effects too
abbrev pub worth_for : PlanState → Activity → Prefer → ℤ
worth_for s a (Early kind w) = share_of s (Early kind w) a
worth_for s a (Late kind w) = share_of s (Late kind w) a
worth_for s a (Value kind param w) = share_of s (Value kind param w) a
worth_for s a (Level line w) = while_ahead s (w *ℤ level_share s line a)

abbrev pub worth : PlanState → List Prefer → Activity → ℤ
worth s prefers a = total (worth_for s a) prefers

-- what the base of a level counts
abbrev pub base_worth : PlanState → Prefer → ℤ
base_worth s (Level line w) = while_ahead s (w *ℤ told s line)
base_worth s _ = pos 0

-- both together: the score once more
abbrev pub score_apart : PlanState → List Prefer → ℤ
score_apart s prefers = total (base_worth s) prefers +ℤ total (worth s prefers) s.plan.activities

-- what a move adds to the score
abbrev pub gain_of : PlanState → List Prefer → RepairMove → ℤ
gain_of s prefers m = score_after s prefers m -ℤ score s prefers
