-- what was gathered and what the rest gives
use Rattle.std.proofs.Common.{◌≡◌, ◌++◌, drop}
use Rattle.pl_moves.specs.Undone.{picked}
use Rattle.pl_moves.proofs.undoing.picked.Given as goal

abbrev pub invariant-loop-id : goal.invariant-loop-id
invariant-loop-id l = l.all.items ++ picked l.plan.activities (drop l.id-index l.ids) ≡ picked l.plan.activities l.ids
