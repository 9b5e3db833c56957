-- what was marked is right, and stays so
use Rattle.pl_bounds.specs.Seen.{AreMarksThen}
use Rattle.pl_bounds.proofs.broken_musts.add_broken_musts.Given as goal

abbrev pub invariant-loop-demand : goal.invariant-loop-demand
invariant-loop-demand l = AreMarksThen l.board.state l.asking l.initial.marks.items → AreMarksThen l.board.state l.asking l.marks.items
