-- Which goals and activities the present passes as it moves on.
use Rattle.std.specs.Prelude.{ℕ, nat_le, nat_lt, ◌==◌, ◌&&◌, not, Bool, List, map, filter}
use Rattle.pl_conflict.specs.declared.conflict.Conflict.{Conflict}
use Rattle.pl_conflict.specs.declared.conflict.Code.TheVariants as code
use Rattle.pl_conflict.specs.Codes.{code_number}
use Rattle.pl_plan.specs.declared.activity.Activity.{Activity}
use Rattle.pl_plan.specs.Trees.{id_of}
use Rattle.pl_semantics.specs.declared.plan_state.PlanState.{PlanState}
use Rattle.pl_semantics.specs.PlanStates.{is_committed}

-- an open goal of which the latest start has come
abbrev pub is_open_by : ℕ → Conflict → Bool
is_open_by now k = (code_number k.code == code_number code.OpenGoal) && nat_le k.from now

abbrev pub subject_of : Conflict → ℕ
subject_of k = k.subject

-- the open goals among these conflicts that can no longer be met at this moment
unfoldable pub passed_goals : ℕ → List Conflict → List ℕ
passed_goals now ks = map subject_of (filter (is_open_by now) ks)

-- not committed, with a start after the present and up to this moment
abbrev pub becomes_late : PlanState → ℕ → Activity → Bool
becomes_late s now a = not (is_committed s a) && (nat_lt s.moment a.start && nat_le a.start now)

unfoldable pub passed_ids : PlanState → ℕ → List ℕ
passed_ids s now = map id_of (filter (becomes_late s now) s.plan.activities)
