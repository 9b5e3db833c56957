use Rattle.std.proofs.Common.{◌≡◌}
use Rattle.pl_times.specs.Settling.{AreSeen, work_of}
use Rattle.pl_times.proofs.settling.earliest_times.Given as goal

abbrev pub invariant-pops : goal.invariant-pops
invariant-pops l = AreSeen l.net l.known l.rising × (l.rising.floor ≡ l.floor)

abbrev pub decreases-pops : goal.decreases-pops
decreases-pops l = work_of l.rising
