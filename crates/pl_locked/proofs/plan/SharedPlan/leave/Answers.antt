use Rattle.pl_acts.proofs.Growing.{plan_in}
use Rattle.pl_locked.proofs.plan.SharedPlan.leave.Goals as goal

pub returns-clause-own : goal.returns-clause-own
returns-clause-own c =
    let left = c.leave.ensures in
    record { lock = left.own; outside = left.outside; seen = plan_in _ c.args.held left.seen c.is_sound.ensures }
