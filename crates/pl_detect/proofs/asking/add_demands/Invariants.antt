use Rattle.std.proofs.Common.{◌≡◌, ◌++◌, drop, map}
use Rattle.pl_semantics.specs.PlanStates.{numbered}
use Rattle.pl_detect.specs.Amounts.{asked_by}
use Rattle.pl_detect.proofs.asking.add_demands.Given as goal

-- what was added and what the other reservations ask for
abbrev pub invariant-loop-number : goal.invariant-loop-number
invariant-loop-number l =
    l.out.items ++ map (asked_by l.a.id l.a.start l.end l.amounts) (numbered l.number (drop l.number l.reservations))
    ≡ l.initial.out.items ++ map (asked_by l.a.id l.a.start l.end l.amounts) (numbered 0 l.reservations)
