use Rattle.pl_bounds.proofs.Looked.{looks_ahead}
use Rattle.pl_bounds.proofs.looking.look_ahead.Goals as goal

pub returns : goal.returns
returns c = looks_ahead c.args.board.now.state c.args.side c.args.line _ _ c.in_ok-look.ensures
