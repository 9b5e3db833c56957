-- those so far
use Rattle.std.specs.Prelude.{All}
use Rattle.pl_bounds.specs.UnmetMusts.{IsUnmet}
use Rattle.pl_bounds.proofs.unmet_musts.add_unmet.Given as goal

abbrev pub invariant-loop-demand : goal.invariant-loop-demand
invariant-loop-demand l = All (IsUnmet l.board.state) l.all.items
