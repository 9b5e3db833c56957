use Rattle.pl_stn.proofs.FirstCauses.{HaveStarted}
use Rattle.pl_stn.proofs.starting.first_causes.Given as goal

-- the causes that the edges so far give
abbrev pub invariant-loop-number : goal.invariant-loop-number
invariant-loop-number l = HaveStarted l.net l.causes.items l.number
