use Rattle.std.proofs.Common.{◌≡◌, ◌++◌, drop, map}
use Rattle.pl_semantics.specs.PlanStates.{numbered}
use Rattle.pl_semantics.specs.Moves.{alternatives_at}
use Rattle.pl_cand.specs.Details.{detail_of}
use Rattle.pl_cand.proofs.activities.add_details.Given as goal

-- what was added and what the other alternatives give
abbrev pub invariant-loop-number : goal.invariant-loop-number
invariant-loop-number l = l.out.items ++ map (detail_of l.a.id) (numbered l.number (drop l.number l.alternatives)) ≡ l.initial.out.items ++ map (detail_of l.a.id) (numbered 0 (alternatives_at l.state l.a))
