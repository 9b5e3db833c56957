use Rattle.pl_semantics.proofs.Found.{found_here}
use Rattle.pl_flex.proofs.placing.placed_in.Goals as goal

pub placed_of-requires-clause-live : goal.placed_of-requires-clause-live
placed_of-requires-clause-live c =
    found_here c.activities-activities.result.now c.args.s.now.plan.activities c.activities-activities.ensures.value c.requires.rising
    c.loop-activity.activity-index c.activity-item.result c.loop-activity-test.true c.activity-item.is
