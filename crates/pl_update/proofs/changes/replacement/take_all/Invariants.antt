use Rattle.std.proofs.Common.{◌≡◌, take}
use Rattle.pl_update.specs.Changes.Replaced.{taken}
use Rattle.pl_update.proofs.changes.replacement.take_all.Given as goal

abbrev pub invariant-loop-id : goal.invariant-loop-id
invariant-loop-id l = l.plan.activities ≡ taken l.initial.plan.activities (take l.id-index l.gone)
