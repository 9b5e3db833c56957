use Rattle.std.proofs.Common.{◌≡◌, take}
use Rattle.pl_conflict.specs.Sorting.{left_by}
use Rattle.pl_conflict.proofs.set.ConflictSet.remove_all.Given as goal

abbrev pub invariant-loop-conflict : goal.invariant-loop-conflict
invariant-loop-conflict l = l.self-inside.all.keys ≡ left_by (take l.conflict-index l.went) l.initial.self-inside.all.keys
