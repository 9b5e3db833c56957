use Rattle.std.proofs.Common.{◌≡◌, drop}
use Rattle.std.specs.List.{list_any}
use Rattle.pl_cand.specs.Tests.{may_take}
use Rattle.pl_cand.proofs.users.any_may_take.Given as goal

-- none so far
abbrev pub invariant-loop-reservation : goal.invariant-loop-reservation
invariant-loop-reservation l = list_any (may_take l.timeline l.b l.start) (drop l.reservation-index l.reservations) ≡ list_any (may_take l.timeline l.b l.start) l.reservations
