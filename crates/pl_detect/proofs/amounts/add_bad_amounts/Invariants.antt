use Rattle.std.proofs.Common.{◌≡◌, ◌++◌, drop}
use Rattle.std.specs.List.{flat_map}
use Rattle.pl_semantics.specs.PlanStates.{numbered, reservations_of}
use Rattle.pl_semantics.specs.Activities.{bad_amount}
use Rattle.pl_detect.proofs.amounts.add_bad_amounts.Given as goal

-- what was added and what the other reservations give
abbrev pub invariant-loop-number : goal.invariant-loop-number
invariant-loop-number l = l.out.items ++ flat_map (bad_amount l.s l.a) (numbered l.number (drop l.number l.reservations)) ≡ l.initial.out.items ++ flat_map (bad_amount l.s l.a) (reservations_of l.s l.a)
