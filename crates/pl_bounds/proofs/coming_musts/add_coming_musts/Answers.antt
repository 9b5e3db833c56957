use Rattle.pl_bounds.proofs.Having.{has_same}
use Rattle.pl_bounds.proofs.coming_musts.add_coming_musts.Goals as goal

pub mark_one-requires-clause-comes : goal.mark_one-requires-clause-comes
mark_one-requires-clause-comes c = has_same c.as_slice-demand-items.result.now c.args.asking.now.coming.items c.as_slice-demand-items.ensures.value c.loop-demand.demand-index _ c.loop-demand-test.true
