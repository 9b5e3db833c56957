use Rattle.std.proofs.Common.{◌≡◌, ◌++◌, take}
use Rattle.std.specs.List.{flat_map}
use Rattle.pl_semantics.specs.Starts.{adds_of}
use Rattle.pl_cand.proofs.helping.add_each.Given as goal

abbrev pub invariant-loop-kind : goal.invariant-loop-kind
invariant-loop-kind l = l.out.items ≡ l.initial.out.items ++ flat_map (adds_of l.state l.starts) (take l.kind-index l.kinds)
