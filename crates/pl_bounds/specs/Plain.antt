-- Conflicts of goals and of activities.
use Rattle.std.specs.Prelude.{Bool, true, false, ℕ, filter, length}
use Rattle.pl_conflict.specs.declared.conflict.Conflict.{Conflict}
use Rattle.pl_semantics.specs.declared.plan_state.PlanState.{PlanState}
use Rattle.pl_semantics.specs.Conflicts.{conflicts_of}
use Rattle.pl_semantics.specs.Parts.{Part, part_of, of_goals, of_activities, of_links, of_timelines}

abbrev pub is_plain_part : Part → Bool
is_plain_part of_goals = true
is_plain_part of_activities = true
is_plain_part of_links = false
is_plain_part of_timelines = false

abbrev pub is_plain : Conflict → Bool
is_plain q = is_plain_part (part_of q.code)

-- how many of them stand
abbrev pub count_of_plain : PlanState → ℕ
count_of_plain s = length (filter is_plain (conflicts_of s))
