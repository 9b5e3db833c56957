use Rattle.std.proofs.Common.{◌≡◌, drop}
use Rattle.pl_check.specs.Judgements.{each_made}
use Rattle.pl_check.proofs.LoopLemmas.{each_made_from}
use Rattle.pl_check.specs.Numbering.{numbered_reservation}
use Rattle.pl_check.proofs.reserving.number_reservations.Given as goal

-- the rest gives the whole
abbrev pub invariant-loop-reservation : goal.invariant-loop-reservation
invariant-loop-reservation l = each_made_from (numbered_reservation l.items l.params) l.all (drop l.reservation-index l.reservations) ≡ each_made (numbered_reservation l.items l.params) l.reservations
