use Rattle.pl_locked.proofs.Halves.{executive_rests}
use Rattle.pl_locked.proofs.plan.SharedPlan.begin.Goals as goal

pub returns-in-Planner-clause-rests : goal.returns-in-Planner-clause-rests
returns-in-Planner-clause-rests g c = λ off. rw c.in-Planner.is (c.view_plan.ensures.rests off)

pub returns-in_err-acted-in-Executive-clause-rests : goal.returns-in_err-acted-in-Executive-clause-rests
returns-in_err-acted-in-Executive-clause-rests g c = λ off. executive_rests c.args.by c.args.role.now _ c.args.pass.now _ _ c.in-Executive.is

pub returns-in_ok-acted-in-Executive-clause-rests : goal.returns-in_ok-acted-in-Executive-clause-rests
returns-in_ok-acted-in-Executive-clause-rests g c = λ off. executive_rests c.args.by c.args.role.now _ c.args.pass.now _ _ c.in-Executive.is
