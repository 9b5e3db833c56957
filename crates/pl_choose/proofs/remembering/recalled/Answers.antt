use Rattle.pl_choose.proofs.Remembered.{all_proper, fewest_there}
use Rattle.pl_choose.proofs.remembering.recalled.Goals as goal

pub recall-requires-clause-proper : goal.recall-requires-clause-proper
recall-requires-clause-proper c = all_proper c.args.board.now.state c.args.moves.now c.requires.allowed

pub returns-in-Some : goal.returns-in-Some
returns-in-Some c = fewest_there c.args.board.now.state c.args.moves.now c.in-Some.place _ c.in-Some.ensures

pub bounds-moves-place : goal.bounds-moves-place
bounds-moves-place c = c.in-Some.ensures.there
