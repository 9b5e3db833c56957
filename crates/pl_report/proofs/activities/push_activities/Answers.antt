use Rattle.pl_detect.proofs.Found.{found_here}
use Rattle.pl_report.proofs.activities.push_activities.Goals as goal

pub push_activity_line-requires-clause-live : goal.push_activity_line-requires-clause-live
push_activity_line-requires-clause-live c =
    found_here c.activities-activities.result.now c.args.state.now.plan.activities c.activities-activities.ensures.value c.requires.rising
    c.loop-activity.activity-index c.activity-item.result c.loop-activity-test.true c.activity-item.is
