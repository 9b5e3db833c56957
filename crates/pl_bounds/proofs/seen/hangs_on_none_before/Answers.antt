use Rattle.pl_bounds.specs.Seen.{IsOtherBefore}
use Rattle.pl_bounds.proofs.Seeing.{each_more}
use Rattle.pl_bounds.proofs.seen.hangs_on_none_before.Goals as goal

pub loop-demand-preserved : goal.loop-demand-preserved
loop-demand-preserved c =
    each_more c.args.seen.now.line (IsOtherBefore c.args.board.now.state c.args.seen.now c.args.set.now) c.args.demands.now c.loop-demand.demand-index _ c.loop-demand-test.true c.loop-demand.invariant (c.is_free_before.ensures c.if-not-is_free_before.false)
