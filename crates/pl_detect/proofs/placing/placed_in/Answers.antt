use Rattle.std.proofs.Common.{◌∙◌}
use Rattle.pl_semantics.proofs.Found.{found_here}
use Rattle.pl_detect.proofs.Stored.{fits_next, kept_next}
use Rattle.pl_detect.proofs.placing.placed_in.Goals as goal

pub placed_of-requires-clause-live : goal.placed_of-requires-clause-live
placed_of-requires-clause-live c =
    found_here c.activities-activities.result.now c.args.s.now.plan.activities c.activities-activities.ensures.value c.requires.rising
    c.loop-activity.activity-index c.activity-item.result c.loop-activity-test.true c.activity-item.is

pub place-requires-clause-free : goal.place-requires-clause-free
place-requires-clause-free c =
    rw (c.get.ensures, c.placed_of.ensures)
    (fits_next c.args.s.now c.requires c.activities-activities.result.now c.activities-activities.ensures.value
    c.loop-activity.activity-index c.activity-item.result c.loop-activity-test.true c.activity-item.is c.loop-activity.links c.loop-activity.invariant)

pub loop-activity-preserved : goal.loop-activity-preserved
loop-activity-preserved c =
    c.in_ok-place.ensures.ok
    ∙ rw (c.get.ensures, c.placed_of.ensures)
    (kept_next c.args.s.now c.requires c.activities-activities.result.now c.activities-activities.ensures.value
    c.loop-activity.activity-index c.activity-item.result c.loop-activity-test.true c.activity-item.is c.loop-activity.links c.loop-activity.invariant)
