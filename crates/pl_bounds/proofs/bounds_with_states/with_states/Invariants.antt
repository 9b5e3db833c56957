-- the numbers of those so far
use Rattle.std.specs.Prelude.{take}
use Rattle.pl_bounds.specs.Bounds.{AreLeast}
use Rattle.pl_bounds.proofs.bounds_with_states.with_states.Given as goal

abbrev pub invariant-loop-place : goal.invariant-loop-place
invariant-loop-place l = AreLeast l.board.state (take l.place l.moves) l.all.items
