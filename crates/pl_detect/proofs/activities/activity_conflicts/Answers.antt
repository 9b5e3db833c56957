use Rattle.pl_semantics.proofs.Found.{found_here}
use Rattle.pl_detect.proofs.activities.activity_conflicts.Goals as goal

pub wrong_at-requires-clause-live : goal.wrong_at-requires-clause-live
wrong_at-requires-clause-live c =
    found_here c.activities-activities.result.now c.args.s.now.plan.activities c.activities-activities.ensures.value c.requires.rising
    c.loop-activity.activity-index c.activity-item.result c.loop-activity-test.true c.activity-item.is
