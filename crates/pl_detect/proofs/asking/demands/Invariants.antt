use Rattle.std.proofs.Common.{◌≡◌, ◌++◌, drop}
use Rattle.std.specs.List.{flat_map}
use Rattle.pl_semantics.specs.Demands.{demands_at, demands_of}
use Rattle.pl_detect.proofs.asking.demands.Given as goal

-- what was found and what the other activities ask for
abbrev pub invariant-loop-a : goal.invariant-loop-a
invariant-loop-a l = l.all.items ++ flat_map (demands_at l.s) (drop l.a-index l.a-items) ≡ demands_of l.s
