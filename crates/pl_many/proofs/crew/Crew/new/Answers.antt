use Rattle.pl_many.proofs.Beginning.{crew_hired}
use Rattle.pl_many.proofs.crew.Crew.new.Goals as goal

pub returns-clause-hired : goal.returns-clause-hired
returns-clause-hired c =
    crew_hired c.in_ok-plan.plan c.args.planners c.args.seed c.args.machine c.in_ok-plan.pass c.hire_all.new.first c.hire_all.new.members c.in_ok-plan.ensures.first c.in_ok-plan.ensures.seen c.hire_all.ensures
