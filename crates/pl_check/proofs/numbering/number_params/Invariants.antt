use Rattle.std.proofs.Common.{◌≡◌, drop, length}
use Rattle.pl_check.specs.Judgements.{each_made}
use Rattle.pl_check.proofs.LoopLemmas.{each_made_from}
use Rattle.pl_check.specs.Numbering.{numbered_param}
use Rattle.pl_check.proofs.numbering.number_params.Given as goal

-- the rest gives the whole
abbrev pub invariant-loop-param : goal.invariant-loop-param
invariant-loop-param l = record {
  each_param : length l.all ≡ l.param-index;
  rest : each_made_from (numbered_param l.params) l.all (drop l.param-index l.params) ≡ each_made (numbered_param l.params) l.params;
}
