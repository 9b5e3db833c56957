use Rattle.std.proofs.Common.{drop}
use Rattle.pl_rate.specs.Hinges.{drift_gain}
use Rattle.pl_rate.proofs.Gained.{Leaves}
use Rattle.pl_rate.proofs.gathering.push_drifts.Given as goal

-- what was put, and what the other rates are still to add
abbrev pub invariant-loop-rate : goal.invariant-loop-rate
invariant-loop-rate l = Leaves (drift_gain l.bases l.horizon) l.initial.hinges.items l.hinges.items l.rates (drop l.rate-index l.rates)
