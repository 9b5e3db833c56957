use Rattle.pl_bounds.specs.Moved.{demand_moved}
use Rattle.pl_bounds.specs.UnmetMusts.{DecidesNot}
use Rattle.pl_bounds.proofs.StillUnmet.{each_more_moved}
use Rattle.pl_bounds.proofs.deciding.are_idle_moved.Goals as goal

pub loop-demand-preserved : goal.loop-demand-preserved
loop-demand-preserved c =
    each_more_moved c.args.unmet.now.seen.line (DecidesNot c.args.board.now.state c.args.unmet.now) (demand_moved c.args.way.from c.args.way.to) c.args.demands.now c.loop-demand.demand-index _ c.loop-demand-test.true c.loop-demand.invariant (c.is_idle_moved.ensures c.if-not-is_idle_moved.false)
