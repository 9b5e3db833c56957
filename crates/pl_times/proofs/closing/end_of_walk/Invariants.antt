use Rattle.std.proofs.Common.{take}
use Rattle.pl_times.proofs.Walking.{HasMarked}
use Rattle.pl_times.proofs.closing.end_of_walk.Given as goal

-- the edges so far are a walk, whose starts are marked
abbrev pub invariant-loop-number : goal.invariant-loop-number
invariant-loop-number l = HasMarked l.net l.start l.marks (take l.number-index l.numbers) l.at l.sum
