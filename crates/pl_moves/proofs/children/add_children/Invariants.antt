-- what was added and what the other slots give
use Rattle.std.proofs.Common.{◌≡◌, ◌++◌, drop}
use Rattle.pl_semantics.specs.Moves.{children_from}
use Rattle.pl_moves.proofs.children.add_children.Given as goal

abbrev pub invariant-loop-number : goal.invariant-loop-number
invariant-loop-number l = l.all.items ++ children_from l.s l.parent l.number (drop l.number l.slots) (drop l.number l.offsets) ≡ l.initial.all.items ++ children_from l.s l.parent 0 l.slots l.offsets
