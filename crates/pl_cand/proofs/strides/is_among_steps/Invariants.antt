use Rattle.std.proofs.Common.{◌≡◌}
use Rattle.std.specs.List.{list_any}
use Rattle.std.specs.Ordering.{int_eq}
use Rattle.pl_semantics.specs.Starts.{steps_from}
use Rattle.pl_cand.proofs.strides.is_among_steps.Given as goal

-- the number is one of the other steps where it is one of all
abbrev pub invariant-loop-left : goal.invariant-loop-left
invariant-loop-left l = list_any (int_eq l.number) (steps_from l.left l.next l.high l.step) ≡ list_any (int_eq l.number) (steps_from l.most l.low l.high l.step)

abbrev pub decreases-loop-left : goal.decreases-loop-left
decreases-loop-left l = l.left
