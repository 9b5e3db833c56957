use Rattle.std.proofs.Common.{◌≡◌, [], drop}
use Rattle.pl_semantics.specs.PlanStates.{numbered}
use Rattle.pl_cand.specs.Helping.{helpers_with}
use Rattle.pl_cand.proofs.helping.first_helpers.Given as goal

-- what is there and what comes of the other kinds
abbrev pub invariant-loop-number : goal.invariant-loop-number
invariant-loop-number l = helpers_with l.timeline l.help l.found.items (numbered l.number (drop l.number l.kinds)) ≡ helpers_with l.timeline l.help [] (numbered 0 l.state.model.kinds)
