use Rattle.pl_stn.proofs.Passes.{HaveTightened}
use Rattle.pl_stn.proofs.solving.tighten_all.Given as goal

-- the edges so far are tightened
abbrev pub invariant-loop-number : goal.invariant-loop-number
invariant-loop-number l = HaveTightened l.net l.fn.times l.fn.causes l.times l.causes l.raised l.number
