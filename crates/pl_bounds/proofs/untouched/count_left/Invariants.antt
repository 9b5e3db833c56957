-- what was counted and what the rest may be
use Rattle.std.proofs.Common.{◌+◌, ◌≤◌, drop, filter, length}
use Rattle.pl_bounds.specs.Remaining.{is_left}
use Rattle.pl_bounds.proofs.untouched.count_left.Given as goal

abbrev pub invariant-loop-one : goal.invariant-loop-one
invariant-loop-one l = (l.count + length (filter (is_left l.gone l.kinds l.parent) (drop l.one-index l.links))) ≤ length (filter (is_left l.gone l.kinds l.parent) l.links)
