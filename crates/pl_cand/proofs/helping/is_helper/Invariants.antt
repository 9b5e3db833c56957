use Rattle.std.proofs.Common.{◌≡◌, drop}
use Rattle.std.specs.List.{list_any}
use Rattle.pl_cand.specs.Tests.{helps}
use Rattle.pl_cand.proofs.helping.is_helper.Given as goal

-- none so far
abbrev pub invariant-loop-reservation : goal.invariant-loop-reservation
invariant-loop-reservation l = list_any (helps l.timeline l.help) (drop l.reservation-index l.reservation-items) ≡ list_any (helps l.timeline l.help) l.kind.reservations
