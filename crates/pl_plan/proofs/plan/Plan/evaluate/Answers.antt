use Rattle.pl_plan.proofs.FirmSteps.{is_there}
use Rattle.pl_plan.proofs.plan.Plan.evaluate.Goals as goal

pub returns-clause-firm : goal.returns-clause-firm
returns-clause-firm c = is_there _ _ c.end_over-end.ensures.none
