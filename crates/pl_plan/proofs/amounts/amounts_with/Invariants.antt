-- the amounts so far and those of the rest
use Rattle.std.proofs.Common.{◌≡◌, ◌++◌, drop}
use Rattle.pl_plan.specs.Firm.{amounts_with}
use Rattle.pl_plan.proofs.amounts.amounts_with.Given as goal

abbrev pub invariant-loop-reservation : goal.invariant-loop-reservation
invariant-loop-reservation l = l.amounts.items ++ amounts_with l.values (drop l.reservation-index l.reservations) ≡ amounts_with l.values l.reservations
