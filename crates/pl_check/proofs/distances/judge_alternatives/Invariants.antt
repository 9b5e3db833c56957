use Rattle.std.proofs.Common.{◌≡◌, drop}
use Rattle.pl_check.specs.Judgements.{each}
use Rattle.pl_check.specs.Ranges.{range_in_alternative}
use Rattle.pl_check.proofs.distances.judge_alternatives.Given as goal

-- the rest gives the whole
abbrev pub invariant-loop-alternative : goal.invariant-loop-alternative
invariant-loop-alternative l = each (range_in_alternative l.horizon) (drop l.alternative-index l.alternatives) ≡ each (range_in_alternative l.horizon) l.alternatives
