use Rattle.std.proofs.Common.{◌≡◌, map, take}
use Rattle.pl_check.specs.Dependencies.{param_needs}
use Rattle.pl_check.proofs.dependencies.param_graph.Given as goal

abbrev pub invariant-loop-param : goal.invariant-loop-param
invariant-loop-param l = l.graph ≡ map param_needs (take l.param-index l.param-items)
