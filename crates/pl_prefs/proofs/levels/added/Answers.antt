use Rattle.std.proofs.Common.{refl, arith}
use Rattle.std.proofs.lemmas.Int.{ints}
use Rattle.pl_prefs.specs.Added.{added_by}
use Rattle.pl_prefs.proofs.Adding.{total_next, total_end, added_all}
use Rattle.pl_prefs.proofs.levels.added.Goals as goal

pub loop-demand-preserved : goal.loop-demand-preserved
loop-demand-preserved c =
    let next = total_next (added_by c.args.base c.args.until c.args.line) c.args.demands.now c.loop-demand.demand-index _ _ c.added_by.result c.loop-demand-test.true refl c.added_by.ensures in
    record {
      sum = omega (arith, ints, next, c.loop-demand.invariant.sum);
      within = (omega (arith, ints, c.loop-demand.invariant.within), omega (arith, ints, c.loop-demand.invariant.within));
    }

pub returns-clause-value : goal.returns-clause-value
returns-clause-value c =
    let end = total_end (added_by c.args.base c.args.until c.args.line) c.args.demands.now c.loop-demand.demand-index c.loop-demand-test.false in
    omega (arith, ints, end, c.loop-demand.invariant.sum, added_all c.args.base c.args.until c.args.line c.args.demands.now)
