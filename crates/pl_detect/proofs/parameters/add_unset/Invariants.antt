use Rattle.std.proofs.Common.{◌≡◌, ◌++◌, drop}
use Rattle.std.specs.List.{flat_map}
use Rattle.pl_semantics.specs.PlanStates.{numbered}
use Rattle.pl_semantics.specs.Activities.{unset_at, unset_one}
use Rattle.pl_detect.proofs.parameters.add_unset.Given as goal

-- what was added and what the other parameters give
abbrev pub invariant-loop-number : goal.invariant-loop-number
invariant-loop-number l = l.out.items ++ flat_map (unset_one l.s l.a) (numbered l.number (drop l.number l.params)) ≡ l.initial.out.items ++ unset_at l.s l.a
