use Rattle.pl_stn.specs.Nets.{IsWellFormed}
use Rattle.trials_parts.proofs.basics.networks.net.Given as goal

abbrev pub invariant-loop-word : goal.invariant-loop-word
invariant-loop-word g l = IsWellFormed l.net
