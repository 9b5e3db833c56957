use Rattle.std.proofs.Common.{ℕ, ◌<◌, get_or}
use Rattle.pl_plan.specs.declared.activity.Activity.{Activity}
use Rattle.pl_update.specs.Evaluations.Shifted.{IsElsewhere}
use Rattle.pl_update.proofs.evaluations.shifting.is_shift.Given as goal

abbrev pub invariant-loop-a : goal.invariant-loop-a
invariant-loop-a l = (k : ℕ) (d : Activity) → k < l.a-index → IsElsewhere l.s.plan.activities (get_or l.placed k d)
