use Rattle.std.proofs.Common.{◌≡◌, drop}
use Rattle.std.specs.List.{list_any}
use Rattle.pl_cand.specs.Tests.{changes_at}
use Rattle.pl_cand.proofs.users.any_changes.Given as goal

-- none so far
abbrev pub invariant-loop-reservation : goal.invariant-loop-reservation
invariant-loop-reservation l = list_any (changes_at l.way l.state l.timeline l.b l.a) (drop l.reservation-index l.reservations) ≡ list_any (changes_at l.way l.state l.timeline l.b l.a) l.reservations
