use Rattle.std.proofs.Common.{◌≡◌, drop, bytes_eq}
use Rattle.std.specs.List.{position_from}
use Rattle.pl_check.proofs.finding.state_named.Given as goal

-- the rest gives the whole
abbrev pub invariant-loop-place : goal.invariant-loop-place
invariant-loop-place l = position_from (bytes_eq l.name) l.place (drop l.place l.states) ≡ position_from (bytes_eq l.name) 0 l.states
