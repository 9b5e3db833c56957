use Rattle.std.proofs.Common.{take}
use Rattle.pl_lists.specs.Lists.{Pairwise}
use Rattle.pl_check.specs.Networks.{FinishesAlternative}
use Rattle.pl_check.proofs.schedules.finish_alternatives.Given as goal

abbrev pub invariant-loop-number : goal.invariant-loop-number
invariant-loop-number l = Pairwise (FinishesAlternative l.spans l.own) (take l.number l.kind.alternatives) l.finished
