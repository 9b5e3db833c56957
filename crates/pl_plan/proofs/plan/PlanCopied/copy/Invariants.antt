use Rattle.std.proofs.Common.{◌≡◌, take}
use Rattle.pl_plan.proofs.plan.PlanCopied.copy.Given as goal

-- the copy has the activities so far
abbrev pub invariant-loop-activity : goal.invariant-loop-activity
invariant-loop-activity l = l.plan.activities ≡ take l.activity-index l.activity-items
