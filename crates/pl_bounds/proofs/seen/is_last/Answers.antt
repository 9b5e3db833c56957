use Rattle.pl_bounds.specs.Seen.{IsNotBehind}
use Rattle.pl_bounds.proofs.Seeing.{each_more}
use Rattle.pl_bounds.proofs.seen.is_last.Goals as goal

pub loop-demand-preserved : goal.loop-demand-preserved
loop-demand-preserved c =
    each_more c.args.line (IsNotBehind c.args.set.now) c.args.demands.now c.loop-demand.demand-index _ c.loop-demand-test.true c.loop-demand.invariant (c.is_not_behind.ensures c.if-not-is_not_behind.false)
