use Rattle.pl_cand.proofs.Few.{moves_few, moves_fewer}
use Rattle.pl_cand.proofs.seeking.most_moves.Goals as goal

pub returns-in-Some-clause-moves : goal.returns-in-Some-clause-moves
returns-in-Some-clause-moves c = λ s. moves_few s c.args.a.now

pub returns-in-None-clause-moves : goal.returns-in-None-clause-moves
returns-in-None-clause-moves c = λ s. moves_fewer s c.args.a.now c.in-None.is
