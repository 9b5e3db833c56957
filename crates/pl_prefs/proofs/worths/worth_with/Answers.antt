use Rattle.std.proofs.Common.{refl, arith}
use Rattle.std.proofs.lemmas.Int.{ints}
use Rattle.pl_prefs.specs.Worths.{worth_for}
use Rattle.pl_prefs.proofs.Adding.{total_next, total_end}
use Rattle.pl_prefs.proofs.worths.worth_with.Goals as goal

pub loop-prefer-preserved : goal.loop-prefer-preserved
loop-prefer-preserved c =
    let next = total_next (worth_for c.args.s.now c.args.a.now) c.args.prefers.now c.loop-prefer.prefer-index _ _ c.worth_for-sum.result c.loop-prefer-test.true refl c.worth_for-sum.ensures.value in
    record {
      sum = omega (arith, ints, next, c.loop-prefer.invariant.sum);
      within = (omega (arith, ints, c.loop-prefer.invariant.within, c.worth_for-sum.ensures.within), omega (arith, ints, c.loop-prefer.invariant.within, c.worth_for-sum.ensures.within));
    }

pub returns-clause-value : goal.returns-clause-value
returns-clause-value c =
    let end = total_end (worth_for c.args.s.now c.args.a.now) c.args.prefers.now c.loop-prefer.prefer-index c.loop-prefer-test.false in
    omega (arith, ints, end, c.loop-prefer.invariant.sum)
