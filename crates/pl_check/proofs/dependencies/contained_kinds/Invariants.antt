use Rattle.std.proofs.Common.{◌≡◌, flat_map, take}
use Rattle.pl_check.specs.Dependencies.{alternative_kinds}
use Rattle.pl_check.proofs.dependencies.contained_kinds.Given as goal

abbrev pub invariant-loop-alternative : goal.invariant-loop-alternative
invariant-loop-alternative l = l.kinds ≡ flat_map alternative_kinds (take l.alternative-index l.alternative-items)
