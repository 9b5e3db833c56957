-- the rest gives the whole
use Rattle.std.proofs.Common.{◌≡◌, drop}
use Rattle.pl_semantics.specs.Moves.{children_from}
use Rattle.pl_moves.specs.Sides.{first_on}
use Rattle.pl_moves.proofs.starts.first_child.Given as goal

abbrev pub invariant-loop-number : goal.invariant-loop-number
invariant-loop-number l = first_on l.s l.side (children_from l.s l.parent l.number (drop l.number l.slots) (drop l.number l.offsets)) ≡ first_on l.s l.side (children_from l.s l.parent 0 l.slots l.offsets)
