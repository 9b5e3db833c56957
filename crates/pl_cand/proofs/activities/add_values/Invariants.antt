use Rattle.std.proofs.Common.{◌≡◌, ◌++◌, take, map}
use Rattle.pl_cand.specs.Details.{assign_to}
use Rattle.pl_cand.proofs.activities.add_values.Given as goal

abbrev pub invariant-loop-value : goal.invariant-loop-value
invariant-loop-value l = l.out.items ≡ l.initial.out.items ++ map (assign_to l.id l.number) (take l.value-index l.values)
