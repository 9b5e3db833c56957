use Rattle.pl_bounds.proofs.Seeing.{hangs_more}
use Rattle.pl_bounds.proofs.seen.hangs_on_none.Goals as goal

pub loop-demand-preserved : goal.loop-demand-preserved
loop-demand-preserved c =
    hangs_more c.args.board.now.state c.args.seen.now.line c.args.seen.now.at c.args.demands.now c.loop-demand.demand-index _ c.loop-demand-test.true c.loop-demand.invariant (c.is_free_of.ensures c.if-not-is_free_of.false)
