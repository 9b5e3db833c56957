use Rattle.std.proofs.Common.{◌≡◌, map, take}
use Rattle.pl_times.specs.Mirror.{turn}
use Rattle.pl_times.proofs.mirror.turned.Given as goal

abbrev pub invariant-loop-edge : goal.invariant-loop-edge
invariant-loop-edge l = l.all.items ≡ map turn (take l.edge-index l.edges)
