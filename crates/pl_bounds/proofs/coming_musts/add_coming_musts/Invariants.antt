-- the marks so far
use Rattle.pl_bounds.specs.Afterwards.{coming_at}
use Rattle.pl_bounds.specs.Seen.{AreMarksAfter}
use Rattle.pl_bounds.proofs.coming_musts.add_coming_musts.Given as goal

abbrev pub invariant-loop-demand : goal.invariant-loop-demand
invariant-loop-demand l = AreMarksAfter l.board.state l.asking.going.items (coming_at l.asking l.start) l.fn.marks.items → AreMarksAfter l.board.state l.asking.going.items (coming_at l.asking l.start) l.marks.items
