use Rattle.std.proofs.Common.{◌≡◌, map, take}
use Rattle.pl_check.specs.Dependencies.{contained_kinds}
use Rattle.pl_check.proofs.dependencies.kind_graph.Given as goal

abbrev pub invariant-loop-kind : goal.invariant-loop-kind
invariant-loop-kind l = l.graph ≡ map contained_kinds (take l.kind-index l.kinds)
