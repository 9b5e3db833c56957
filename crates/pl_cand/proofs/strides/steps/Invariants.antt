use Rattle.std.proofs.Common.{◌≡◌, ◌++◌}
use Rattle.pl_semantics.specs.Starts.{steps_from}
use Rattle.pl_cand.proofs.strides.steps.Given as goal

-- what is there and what the other steps give
abbrev pub invariant-loop-left : goal.invariant-loop-left
invariant-loop-left l = l.all.items ++ steps_from l.left l.next l.high l.step ≡ steps_from l.most l.low l.high l.step

abbrev pub decreases-loop-left : goal.decreases-loop-left
decreases-loop-left l = l.left
