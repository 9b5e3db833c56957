use Rattle.std.proofs.Common.{◌≡◌, ◌++◌, map, take}
use Rattle.pl_check.specs.Dependencies.{slot_kind}
use Rattle.pl_check.proofs.dependencies.push_kinds.Given as goal

abbrev pub invariant-loop-slot : goal.invariant-loop-slot
invariant-loop-slot l = l.out ≡ l.initial.out ++ map slot_kind (take l.slot-index l.slot-items)
