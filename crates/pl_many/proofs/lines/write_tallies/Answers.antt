use Rattle.std.proofs.Common.{arith}
use Rattle.pl_many.proofs.Tallying.{adds_tally, front_tally}
use Rattle.pl_many.proofs.lines.write_tallies.Goals as goal

pub returns-in_err-write_tally-clause-front : goal.returns-in_err-write_tally-clause-front
returns-in_err-write_tally-clause-front g c =
    front_tally c.loop-before.before c.args.planners c.args.marks.now c.args.log.now c.loop-before-test.true c.tally_for.result c.tally_for.ensures c.from_residual.result _ _ _ _ c.loop-before.invariant.0 c.in_err-write_tally.ensures.front

pub loop-before-preserved : goal.loop-before-preserved
loop-before-preserved g c = (
  adds_tally c.loop-before.before c.args.planners c.args.marks.now c.args.log.now c.loop-before-test.true c.tally_for.result c.tally_for.ensures _ _ _ _ c.loop-before.invariant.0 c.in_ok-write_tally.ensures.text,
  (let before = c.loop-before.invariant.1 in let later = c.write_tally.ensures.later in omega (arith, before, later)),
)
