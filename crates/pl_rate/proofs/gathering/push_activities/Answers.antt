use Rattle.pl_detect.proofs.Bounded.{item_live}
use Rattle.pl_rate.proofs.Gained.{cons_at, leaves_more}
use Rattle.pl_rate.proofs.gathering.push_activities.Goals as goal

pub push_activity-requires-clause-live : goal.push_activity-requires-clause-live
push_activity-requires-clause-live c =
    item_live c.args.plan.now.activities c.activities-activity-items.result.now c.loop-activity.activity-index c.activity-item.result c.activities-activity-items.ensures.value c.activities-activity-items.ensures.rising c.loop-activity-test.true c.activity-item.is

pub loop-activity-preserved : goal.loop-activity-preserved
loop-activity-preserved c =
    leaves_more _ _ _ _ _ _ _ c.activity-item.result (cons_at _ _ _ c.loop-activity-test.true c.activity-item.is) c.loop-activity.invariant c.in_ok-push_activity.ensures
