use Rattle.pl_detect.proofs.Bounded.{item_live}
use Rattle.pl_detect.proofs.asking.demands.Goals as goal

pub demands_at-requires-clause-live : goal.demands_at-requires-clause-live
demands_at-requires-clause-live c =
    item_live c.args.s.now.plan.activities c.activities-a-items.result.now c.loop-a.a-index c.a-item.result c.activities-a-items.ensures.value c.requires.rising c.loop-a-test.true c.a-item.is
