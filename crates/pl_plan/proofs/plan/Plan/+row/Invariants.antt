use Rattle.pl_plan.proofs.plan.Plan.+row.Given as goal

abbrev pub decreases-row : goal.decreases-row
decreases-row l = l.id
