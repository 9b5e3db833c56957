-- What is tried for a conflict about one activity.
use Rattle.std.specs.Prelude.{List, []}
use Rattle.pl_conflict.specs.declared.conflict.Conflict.{Conflict}
use Rattle.pl_conflict.specs.declared.conflict.Code.{Code}
use Rattle.pl_conflict.specs.declared.conflict.Code.TheVariants as code
use Rattle.pl_plan.specs.declared.activity.Activity.{Activity}
use Rattle.pl_plan.specs.declared.repair.RepairMove.{RepairMove}
use Rattle.pl_semantics.specs.declared.plan_state.PlanState.{PlanState}
use Rattle.pl_semantics.specs.Starts.{moves_of}
use Rattle.pl_semantics.specs.Repairs.{for_unset, for_bad_value, for_undetailed, for_overrun, for_temporal, for_linked}
use Rattle.pl_semantics.specs.LineRepairs.{for_must, for_bad_step}

abbrev pub tried_with : PlanState → Activity → Conflict → Code → List RepairMove
tried_with s a k code.OpenGoal = []
tried_with s a k code.OffGoal = moves_of s a
tried_with s a k code.Late = moves_of s a
tried_with s a k code.Unset = for_unset s a k.detail
tried_with s a k code.BadValue = for_bad_value s a
tried_with s a k code.Undetailed = for_undetailed s a
tried_with s a k code.Overrun = for_overrun s a
tried_with s a k code.Temporal = for_temporal s a k.detail
tried_with s a k code.Linked = for_linked s a k.detail
tried_with s a k code.Over = []
tried_with s a k code.Low = []
tried_with s a k code.High = []
tried_with s a k code.Must = for_must s a k.detail k.a
tried_with s a k code.BadStep = for_bad_step s a k.detail k.a
