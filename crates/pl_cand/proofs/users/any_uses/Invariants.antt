use Rattle.std.proofs.Common.{◌≡◌, drop}
use Rattle.std.specs.List.{list_any}
use Rattle.pl_cand.specs.Tests.{uses_in}
use Rattle.pl_cand.proofs.users.any_uses.Given as goal

-- none so far
abbrev pub invariant-loop-reservation : goal.invariant-loop-reservation
invariant-loop-reservation l = list_any (uses_in l.timeline l.a l.b l.start l.end l.values) (drop l.reservation-index l.reservations) ≡ list_any (uses_in l.timeline l.a l.b l.start l.end l.values) l.reservations
