-- Which goals and activities a commit concerns.
use Rattle.std.specs.Prelude.{ℕ, ◌==◌, Bool, true, false, List, map, filter}
use Rattle.pl_conflict.specs.declared.conflict.Conflict.{Conflict}
use Rattle.pl_conflict.specs.declared.conflict.Code.{Code}
use Rattle.pl_conflict.specs.declared.conflict.Code.TheVariants as code
use Rattle.pl_conflict.specs.Codes.{code_number}
use Rattle.pl_semantics.specs.Grants.{touches_before}
use Rattle.pl_update.specs.GoalsAndActivities.Passed.{subject_of}

-- the conflicts that begin before this moment
abbrev pub early : ℕ → List Conflict → List Conflict
early h ks = filter (touches_before h) ks

abbrev pub is_open_goal : Conflict → Bool
is_open_goal k = code_number k.code == code_number code.OpenGoal

-- whether a conflict of this code is about an activity, as a root or by itself
abbrev pub names_activity : Code → Bool
names_activity code.OffGoal = true
names_activity code.Late = true
names_activity code.Unset = true
names_activity code.BadValue = true
names_activity code.Undetailed = true
names_activity code.Overrun = true
names_activity _ = false

abbrev pub is_of_activity : Conflict → Bool
is_of_activity k = names_activity k.code

-- the open goals among these conflicts that no start from this moment on can serve
unfoldable pub missed_goals : ℕ → List Conflict → List ℕ
missed_goals h ks = map subject_of (filter is_open_goal (early h ks))

-- the activities that those of these conflicts are about which begin before this moment
unfoldable pub early_ids : ℕ → List Conflict → List ℕ
early_ids h ks = map subject_of (filter is_of_activity (early h ks))
