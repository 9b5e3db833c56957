use Rattle.std.proofs.Common.{◌≡◌, drop}
use Rattle.pl_check.specs.Judgements.{each}
use Rattle.pl_check.specs.Names.{twice_in_alternative}
use Rattle.pl_check.proofs.repeats.judge_alternatives.Given as goal

-- the rest gives the whole
abbrev pub invariant-loop-alternative : goal.invariant-loop-alternative
invariant-loop-alternative l = each twice_in_alternative (drop l.alternative-index l.alternatives) ≡ each twice_in_alternative l.alternatives
