use Rattle.std.proofs.Common.{◌≡◌, take}
use Rattle.pl_board.proofs.asking.asked_of.Given as goal
use Rattle.std.specs.List.{flat_map}
use Rattle.pl_semantics.specs.Demands.{demands_at}

abbrev pub invariant-loop-a : goal.invariant-loop-a
invariant-loop-a l = l.all.items ≡ flat_map (demands_at l.s) (take l.a-index l.placed)
