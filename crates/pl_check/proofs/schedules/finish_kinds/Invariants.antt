use Rattle.std.proofs.Common.{take}
use Rattle.pl_lists.specs.Lists.{Pairwise}
use Rattle.pl_check.specs.Networks.{FinishesKind}
use Rattle.pl_check.proofs.schedules.finish_kinds.Given as goal

abbrev pub invariant-loop-kind : goal.invariant-loop-kind
invariant-loop-kind l = Pairwise (FinishesKind l.horizon l.spans) (take l.kind-index l.kinds) l.finished
