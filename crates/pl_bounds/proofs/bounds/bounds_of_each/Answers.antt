use Rattle.pl_bounds.specs.Bounds.{left_beside_states}
use Rattle.pl_bounds.proofs.Pushing.{no_more_next}
use Rattle.pl_bounds.proofs.bounds.bounds_of_each.Goals as goal

pub moves-preserved : goal.moves-preserved
moves-preserved c = record {
  least = rw c.in_ok-push.ensures.items (no_more_next (left_beside_states c.args.board.now.state) c.args.moves.now c.moves.mv-index _ c.moves.bounds.items c.in_ok-bound.bound c.moves-test.true c.moves.invariant.least c.in_ok-bound.ensures.least);
  runs = c.in_ok-bound.ensures.runs;
  of_plan = c.in_ok-bound.ensures.of_plan;
  different = c.in_ok-bound.ensures.different;
}
