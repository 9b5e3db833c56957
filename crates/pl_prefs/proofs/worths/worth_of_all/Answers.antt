use Rattle.std.proofs.Common.{arith}
use Rattle.std.proofs.lemmas.Int.{ints}
use Rattle.pl_prefs.specs.Worths.{worth}
use Rattle.pl_prefs.proofs.Adding.{total_next, total_end}
use Rattle.pl_prefs.proofs.worths.worth_of_all.Goals as goal

pub loop-a-preserved : goal.loop-a-preserved
loop-a-preserved c =
    let next = total_next (worth c.args.s.now c.args.prefers.now) c.args.activities.now c.loop-a.a-index _ c.a-item.result c.in_ok-sum.field-0 c.loop-a-test.true c.a-item.is c.in_ok-sum.ensures.value in
    record {
      sum = omega (arith, ints, next, c.loop-a.invariant.sum, c.loop-a.invariant.within, c.in_ok-sum.ensures.within);
      within = (omega (arith, ints, c.loop-a.invariant.within, c.in_ok-sum.ensures.within), omega (arith, ints, c.loop-a.invariant.within, c.in_ok-sum.ensures.within));
    }

pub returns-clause-value : goal.returns-clause-value
returns-clause-value c =
    let end = total_end (worth c.args.s.now c.args.prefers.now) c.args.activities.now c.loop-a.a-index c.loop-a-test.false in
    omega (arith, ints, end, c.loop-a.invariant.sum)
