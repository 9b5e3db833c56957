use Rattle.std.proofs.Common.{◌≡◌, drop}
use Rattle.pl_check.specs.Judgements.{each_made}
use Rattle.pl_check.proofs.LoopLemmas.{each_made_from}
use Rattle.pl_check.specs.Numbering.{numbered_step}
use Rattle.pl_check.proofs.numbering.number_steps.Given as goal

-- the rest gives the whole
abbrev pub invariant-loop-step : goal.invariant-loop-step
invariant-loop-step l = each_made_from (numbered_step l.states) l.all (drop l.step-index l.steps) ≡ each_made (numbered_step l.states) l.steps
