-- right looks by rising moments
use Rattle.pl_bounds.specs.Looks.{AreLooksAt}
use Rattle.pl_bounds.proofs.looking.looks_at.Given as goal

abbrev pub invariant-loop-conflict : goal.invariant-loop-conflict
invariant-loop-conflict l = AreLooksAt l.board.state l.side l.line l.looking.next l.looking.looks.items
