use Rattle.std.proofs.Common.{◌≡◌, drop}
use Rattle.pl_check.specs.Judgements.{at_most, at_most_from}
use Rattle.pl_check.proofs.counts.at_most.Given as goal

-- the rest gives the whole
abbrev pub invariant-loop-place : goal.invariant-loop-place
invariant-loop-place g l = at_most_from l.place l.limit l.what g.T.Counted.counted (drop l.place l.items) ≡ at_most l.limit l.what g.T.Counted.counted l.items
