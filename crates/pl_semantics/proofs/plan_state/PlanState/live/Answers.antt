use Rattle.std.proofs.Common.{◌≡◌, Some}
use Rattle.pl_plan.specs.declared.activity.Activity.{Activity}
use Rattle.pl_plan.specs.Activities.{activity_of}
use Rattle.pl_semantics.specs.PlanStates.{found}
use Rattle.pl_semantics.proofs.Found.{known_by, found_live}
use Rattle.pl_semantics.proofs.plan_state.PlanState.live.Goals as goal

pub returns-clause-live : goal.returns-clause-live
returns-clause-live c =
    let s = c.args.self.now in
    known_by _ (λ (a : Activity). activity_of a.id s.plan.activities ≡ Some a) c.get.result (found s c.args.id) c.get.ensures.value (λ a e. found_live c.args.id s.plan.activities a e)
