-- what was gathered and what the rest gives
use Rattle.std.proofs.Common.{◌≡◌, ◌++◌, drop, map}
use Rattle.pl_semantics.specs.Moves.{moved}
use Rattle.pl_moves.specs.Undone.{picked}
use Rattle.pl_moves.proofs.change.shift_all.Given as goal

abbrev pub invariant-loop-id : goal.invariant-loop-id
invariant-loop-id l = l.all.items ++ map (moved l.top.start l.to) (picked l.s.plan.activities (drop l.id-index l.ids)) ≡ map (moved l.top.start l.to) (picked l.s.plan.activities l.ids)
