use Rattle.std.proofs.Common.{refl, arith}
use Rattle.std.proofs.lemmas.Int.{ints}
use Rattle.pl_prefs.specs.Scores.{score_of, score}
use Rattle.pl_prefs.proofs.Adding.{total_next, total_end}
use Rattle.pl_prefs.proofs.scores.score.Goals as goal

pub loop-prefer-preserved : goal.loop-prefer-preserved
loop-prefer-preserved c =
    let next = total_next (score_of c.args.board.now.state) c.args.prefers.now c.loop-prefer.prefer-index _ _ c.score_of-sum.result c.loop-prefer-test.true refl c.score_of-sum.ensures.value in
    record {
      sum = omega (arith, ints, next, c.loop-prefer.invariant.sum);
      within = (omega (arith, ints, c.loop-prefer.invariant.within, c.score_of-sum.ensures.within), omega (arith, ints, c.loop-prefer.invariant.within, c.score_of-sum.ensures.within));
    }

pub returns-clause-value : goal.returns-clause-value
unfolding score
returns-clause-value c =
    let end = total_end (score_of c.args.board.now.state) c.args.prefers.now c.loop-prefer.prefer-index c.loop-prefer-test.false in
    omega (arith, ints, end, c.loop-prefer.invariant.sum)
