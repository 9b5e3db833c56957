use Rattle.std.proofs.Common.{ℕ, drop}
use Rattle.pl_semantics.specs.PlanStates.{numbered}
use Rattle.pl_rate.specs.Hinges.{reserved_gain}
use Rattle.pl_rate.proofs.Gained.{Leaves}
use Rattle.pl_rate.proofs.effects.push_effects.Given as goal

-- what was put, and what the other reservations are still to add
abbrev pub invariant-loop-number : goal.invariant-loop-number
invariant-loop-number l = (id : ℕ) → Leaves (reserved_gain l.bases id l.lasting.start l.lasting.end l.amounts) l.initial.hinges.items l.hinges.items (numbered 0 l.reservations) (numbered l.number (drop l.number l.reservations))
