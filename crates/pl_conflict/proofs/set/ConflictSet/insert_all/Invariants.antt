use Rattle.std.proofs.Common.{◌≡◌, ◌++◌, take}
use Rattle.pl_conflict.specs.Sorting.{sorted}
use Rattle.pl_conflict.proofs.set.ConflictSet.insert_all.Given as goal

abbrev pub invariant-loop-at : goal.invariant-loop-at
invariant-loop-at l = l.self ≡ sorted (l.initial.self ++ take l.at l.came)
