-- the tally so far, what was last added, and that the looks behind are right
use Rattle.std.proofs.Common.{drop}
use Rattle.pl_bounds.specs.Changed.{IsWalkOf}
use Rattle.pl_bounds.specs.Sides.{AreRight}
use Rattle.pl_bounds.proofs.bounding.times_of.Given as goal

abbrev pub invariant-loop-look : goal.invariant-loop-look
invariant-loop-look l = IsWalkOf l.board.state l.outside l.change.way l.change.steps.now l.walk × AreRight l.board.state l.outside.side l.outside.line (drop l.look-index l.looks)
