-- so far
use Rattle.pl_bounds.specs.Afterwards.{coming_at}
use Rattle.pl_bounds.specs.Seen.{AreMarksAfter}
use Rattle.pl_bounds.proofs.left_unmet.marks_left.Given as goal

abbrev pub invariant-loop-unmet : goal.invariant-loop-unmet
invariant-loop-unmet l = AreMarksAfter l.board.state l.asking.going.items (coming_at l.asking l.start) l.marks.items
