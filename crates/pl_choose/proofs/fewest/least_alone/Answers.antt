use Rattle.std.proofs.Common.{None, arith}
use Rattle.std.proofs.lemmas.List.{take_all}
use Rattle.pl_plan.specs.declared.repair.RepairMove.TheVariants.{Add}
use Rattle.pl_semantics.specs.Legal.{left_after}
use Rattle.pl_choose.proofs.Aims.{least_step}
use Rattle.pl_choose.proofs.fewest.least_alone.Goals as goal

pub loop-mv-preserved : goal.loop-mv-preserved
loop-mv-preserved c =
    let known = rw c.state.ensures.value at c.least_left.ensures.least in
    least_step (left_after c.args.board.now.state) c.args.moves.now c.loop-mv.mv-index c.loop-mv.least c.min-least.result (Add 0 0 None) c.loop-mv-test.true (omega arith) (omega (arith, known)) c.loop-mv.invariant

pub returns : goal.returns
returns c = rw (take_all c.loop-mv.mv-index c.args.moves.now c.loop-mv-test.false) at c.loop-mv.invariant
