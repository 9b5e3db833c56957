use Rattle.pl_bounds.proofs.Having.{has_same}
use Rattle.pl_bounds.proofs.broken_musts.add_broken_musts.Goals as goal

pub mark_by-requires-clause-comes : goal.mark_by-requires-clause-comes
mark_by-requires-clause-comes c = has_same c.as_slice-demand-items.result.now c.args.asking.now.coming.items c.as_slice-demand-items.ensures.value c.loop-demand.demand-index _ c.loop-demand-test.true
