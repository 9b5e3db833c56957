-- what was marked is right, and stays so
use Rattle.pl_bounds.specs.Seen.{AreMarksThen}
use Rattle.pl_bounds.proofs.broken_musts.mark_all.Given as goal

abbrev pub invariant-loop-must : goal.invariant-loop-must
invariant-loop-must l = AreMarksThen l.board.state l.asking l.initial.marks.items → AreMarksThen l.board.state l.asking l.marks.items
