use Rattle.pl_stn.proofs.Walks.{HasCome}
use Rattle.pl_stn.proofs.walking.surely_ends.Given as goal

-- the steps so far lead to the point
abbrev pub invariant-loop-step : goal.invariant-loop-step
invariant-loop-step l = HasCome l.net l.causes l.start l._step l.point
