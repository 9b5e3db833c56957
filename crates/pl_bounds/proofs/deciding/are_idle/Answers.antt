use Rattle.pl_bounds.specs.UnmetMusts.{DecidesNot}
use Rattle.pl_bounds.proofs.Seeing.{each_more}
use Rattle.pl_bounds.proofs.deciding.are_idle.Goals as goal

pub loop-demand-preserved : goal.loop-demand-preserved
loop-demand-preserved c =
    each_more c.args.unmet.now.seen.line (DecidesNot c.args.board.now.state c.args.unmet.now) c.args.demands.now c.loop-demand.demand-index _ c.loop-demand-test.true c.loop-demand.invariant (c.is_idle.ensures c.if-not-is_idle.false)
