-- so far
use Rattle.pl_bounds.specs.Seen.{AreMarksThen}
use Rattle.pl_bounds.proofs.newcomers.newcomers.Given as goal

abbrev pub invariant-loop-demand : goal.invariant-loop-demand
invariant-loop-demand l = AreMarksThen l.board.state l.asking l.marks.items
