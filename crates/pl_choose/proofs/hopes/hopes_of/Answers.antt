use Rattle.pl_semantics.specs.Legal.{left_after}
use Rattle.pl_bounds.specs.Bounds.{left_beside_states}
use Rattle.pl_bounds.proofs.Pushing.{no_more_length}
use Rattle.pl_choose.proofs.Trying.{hopes, least_below}
use Rattle.pl_choose.proofs.hopes.hopes_of.Goals as goal

pub sift-requires : goal.sift-requires
sift-requires c = no_more_length (left_after c.args.board.now.state) c.args.moves.now c.args.bounds.now c.requires.least

pub returns-in-Ok-clause-beside : goal.returns-in-Ok-clause-beside
returns-in-Ok-clause-beside c = λ beside. rw (c.in-Ok.ensures.moves, c.in-Ok.ensures.bounds) (least_below (left_beside_states c.args.board.now.state) c.args.best.left c.args.moves.now c.args.bounds.now beside)

pub returns-in-Ok-clause-hopes : goal.returns-in-Ok-clause-hopes
returns-in-Ok-clause-hopes c = rw (c.in-Ok.ensures.moves, c.in-Ok.ensures.bounds) (hopes c.args.board.now.state c.args.best c.args.moves.now c.args.bounds.now c.requires.allowed c.requires.least)
