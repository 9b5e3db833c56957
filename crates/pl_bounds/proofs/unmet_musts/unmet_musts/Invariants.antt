-- those so far
use Rattle.std.specs.Prelude.{All}
use Rattle.pl_bounds.specs.UnmetMusts.{IsUnmet}
use Rattle.pl_bounds.proofs.unmet_musts.unmet_musts.Given as goal

abbrev pub invariant-loop-conflict : goal.invariant-loop-conflict
invariant-loop-conflict l = All (IsUnmet l.board.state) l.all.items
