-- those so far
use Rattle.std.specs.Prelude.{All}
use Rattle.pl_bounds.specs.UnmetMusts.{IsLeftBy}
use Rattle.pl_bounds.proofs.left_unmet.left_by.Given as goal

abbrev pub invariant-loop-unmet : goal.invariant-loop-unmet
invariant-loop-unmet l = All (IsLeftBy l.board.state l.going) l.left.items
