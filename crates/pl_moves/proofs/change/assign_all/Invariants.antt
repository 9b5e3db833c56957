-- what was gathered and what the rest gives
use Rattle.std.proofs.Common.{◌≡◌, ◌++◌, drop, map}
use Rattle.pl_moves.specs.Changes.{assigned}
use Rattle.pl_moves.specs.Undone.{picked}
use Rattle.pl_moves.proofs.change.assign_all.Given as goal

abbrev pub invariant-loop-id : goal.invariant-loop-id
invariant-loop-id l = l.all.items ++ map (assigned l.top l.number l.value) (picked l.s.plan.activities (drop l.id-index l.ids)) ≡ map (assigned l.top l.number l.value) (picked l.s.plan.activities l.ids)
