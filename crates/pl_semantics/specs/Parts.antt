-- The four parts of the conflicts, by their codes.
use Rattle.std.specs.Prelude.{◌≡◌, ℕ}
use Rattle.pl_conflict.specs.declared.conflict.Conflict.{Conflict}
use Rattle.pl_conflict.specs.declared.conflict.Code.{Code}
use Rattle.pl_conflict.specs.declared.conflict.Code.TheVariants as code

pub data Part : Type 0 where
  of_goals : Part
  of_activities : Part
  of_links : Part
  of_timelines : Part

abbrev pub part_of : Code → Part
part_of code.OpenGoal = of_goals
part_of code.OffGoal = of_goals
part_of code.Late = of_activities
part_of code.Unset = of_activities
part_of code.BadValue = of_activities
part_of code.Undetailed = of_activities
part_of code.Overrun = of_activities
part_of code.Temporal = of_links
part_of code.Linked = of_links
part_of code.Over = of_timelines
part_of code.Low = of_timelines
part_of code.High = of_timelines
part_of code.Must = of_timelines
part_of code.BadStep = of_timelines

-- a conflict of this part, with this subject
abbrev pub IsOf : Part → ℕ → Conflict → Type 0
IsOf part subject q = (q.subject ≡ subject) × (part_of q.code ≡ part)
