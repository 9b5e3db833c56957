-- The conflict of a link or an order that is broken, whose activity is found by its id.
use Rattle.std.specs.Prelude.{List}
use Rattle.pl_conflict.specs.declared.conflict.Conflict.{Conflict}
use Rattle.pl_plan.specs.declared.activity.Activity.{Activity}
use Rattle.pl_links.specs.declared.broken.Broken.{Broken}
use Rattle.pl_semantics.specs.declared.plan_state.PlanState.{PlanState}
use Rattle.pl_semantics.specs.PlanStates.{found, of_found}
use Rattle.pl_semantics.specs.Links.{conflict_of}

abbrev pub conflict_by : PlanState → Broken → Activity → List Conflict
conflict_by s b a = conflict_of s a b

abbrev pub broken_conflict : PlanState → Broken → List Conflict
broken_conflict s b = of_found (conflict_by s b) (found s b.id)
