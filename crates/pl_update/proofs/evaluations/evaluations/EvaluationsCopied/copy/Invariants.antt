-- the entries so far are copied
use Rattle.std.proofs.Common.{◌≡◌, take}
use Rattle.pl_update.proofs.evaluations.evaluations.EvaluationsCopied.copy.Given as goal

abbrev pub invariant-loop-entry : goal.invariant-loop-entry
invariant-loop-entry l = l.by_id.items ≡ take l.entry-index l.entry-items
