-- what was counted and what the rest may be
use Rattle.std.proofs.Common.{◌+◌, ◌≤◌, drop}
use Rattle.pl_bounds.specs.Afterwards.{times_with}
use Rattle.pl_bounds.proofs.bounding.past_after.Given as goal

abbrev pub invariant-loop-place : goal.invariant-loop-place
invariant-loop-place l = (l.times + times_with l.board.state l.asking l.start (drop l.place l.outsides)) ≤ times_with l.board.state l.asking l.start l.outsides
