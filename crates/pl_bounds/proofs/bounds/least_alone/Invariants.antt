-- the numbers of those up to this move
use Rattle.std.specs.Prelude.{take}
use Rattle.pl_bounds.specs.Bounds.{AreLeastBesideStates}
use Rattle.pl_bounds.proofs.bounds.least_alone.Given as goal

abbrev pub invariant-moves : goal.invariant-moves
invariant-moves l = AreLeastBesideStates l.board.state (take l.mv-index l.moves) l.bounds.items
