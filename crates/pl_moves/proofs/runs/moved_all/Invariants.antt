-- what was gathered and what the rest gives
use Rattle.std.proofs.Common.{◌≡◌, ◌++◌, drop, map}
use Rattle.pl_semantics.specs.Moves.{moved}
use Rattle.pl_moves.proofs.runs.moved_all.Given as goal

abbrev pub invariant-loop-a : goal.invariant-loop-a
invariant-loop-a l = l.all.items ++ map (moved l.from l.to) (drop l.a-index l.placed) ≡ map (moved l.from l.to) l.placed
