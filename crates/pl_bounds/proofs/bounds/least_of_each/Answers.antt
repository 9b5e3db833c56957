use Rattle.pl_bounds.proofs.Pushing.{least_of_beside}
use Rattle.pl_bounds.proofs.bounds.least_of_each.Goals as goal

pub returns-clause-least : goal.returns-clause-least
returns-clause-least c = least_of_beside c.args.board.now.state c.args.moves.now c.in_ok-bounds.bounds.items c.in_ok-bounds.ensures
