use Rattle.pl_choose.proofs.Remembered.{all_proper}
use Rattle.pl_choose.proofs.remembering.remember_found.Goals as goal

pub remember-requires-clause-proper : goal.remember-requires-clause-proper
remember-requires-clause-proper c = all_proper c.args.board.now.state c.args.moves.now c.requires.allowed

pub remember-requires-clause-fewest : goal.remember-requires-clause-fewest
remember-requires-clause-fewest c = c.place_of-place.ensures c.args.board.now.state c.requires.best
