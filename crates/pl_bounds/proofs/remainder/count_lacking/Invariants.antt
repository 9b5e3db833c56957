-- what was counted and what the rest may be
use Rattle.std.proofs.Common.{◌+◌, ◌≤◌, drop, filter, length}
use Rattle.pl_bounds.specs.Choosing.{lacks}
use Rattle.pl_bounds.proofs.remainder.count_lacking.Given as goal

abbrev pub invariant-loop-a : goal.invariant-loop-a
invariant-loop-a l = (l.count + length (filter (lacks l.s) (drop l.a-index l.all))) ≤ length (filter (lacks l.s) l.all)
