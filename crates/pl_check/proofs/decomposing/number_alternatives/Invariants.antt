use Rattle.std.proofs.Common.{◌≡◌, drop, length, All, count_by}
use Rattle.pl_check.specs.Judgements.{each_made}
use Rattle.pl_check.proofs.LoopLemmas.{each_made_from}
use Rattle.pl_check.specs.Finding.{is_kind}
use Rattle.pl_check.specs.Sound.{IsSoundAlternative}
use Rattle.pl_check.specs.Numbering.{numbered_alternative}
use Rattle.pl_check.proofs.decomposing.number_alternatives.Given as goal

-- the rest gives the whole
abbrev pub invariant-loop-alternative : goal.invariant-loop-alternative
invariant-loop-alternative l = record {
  each_alternative : length l.all ≡ l.alternative-index;
  sound : All (IsSoundAlternative (count_by is_kind l.items)) l.all;
  rest : each_made_from (numbered_alternative l.items l.params) l.all (drop l.alternative-index l.alternatives) ≡ each_made (numbered_alternative l.items l.params) l.alternatives;
}
