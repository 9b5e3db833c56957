use Rattle.std.proofs.Common.{◌≡◌, drop}
use Rattle.pl_check.specs.Judgements.{each_made}
use Rattle.pl_check.proofs.LoopLemmas.{each_made_from}
use Rattle.pl_check.specs.Numbering.{numbered_binding}
use Rattle.pl_check.proofs.decomposing.number_bindings.Given as goal

-- the rest gives the whole
abbrev pub invariant-loop-binding : goal.invariant-loop-binding
invariant-loop-binding l = each_made_from (numbered_binding l.params l.of_slot) l.all (drop l.binding-index l.bindings) ≡ each_made (numbered_binding l.params l.of_slot) l.bindings
