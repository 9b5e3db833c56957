use Rattle.std.proofs.Common.{arith}
use Rattle.std.proofs.lemmas.Int.{ints}
use Rattle.pl_prefs.specs.Worths.{share_of}
use Rattle.pl_prefs.proofs.Adding.{total_next, total_end}
use Rattle.pl_prefs.proofs.scores.shares_of.Goals as goal

pub loop-a-preserved : goal.loop-a-preserved
loop-a-preserved c =
    let next = total_next (share_of c.args.state.now c.args.prefer.now) c.args.activities.now c.loop-a.a-index _ c.a-item.result c.share_of-sum.result c.loop-a-test.true c.a-item.is c.share_of-sum.ensures.value in
    record {
      sum = omega (arith, ints, next, c.loop-a.invariant.sum);
      within = (omega (arith, ints, c.loop-a.invariant.within, c.share_of-sum.ensures.within), omega (arith, ints, c.loop-a.invariant.within, c.share_of-sum.ensures.within));
    }

pub returns-clause-value : goal.returns-clause-value
returns-clause-value c =
    let end = total_end (share_of c.args.state.now c.args.prefer.now) c.args.activities.now c.loop-a.a-index c.loop-a-test.false in
    omega (arith, ints, end, c.loop-a.invariant.sum)
