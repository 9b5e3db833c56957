-- the board is as it was
use Rattle.std.proofs.Common.{◌≡◌}
use Rattle.pl_search.proofs.tries.Tries.try_conflicts.Given as goal

abbrev pub invariant-loop-conflict : goal.invariant-loop-conflict
invariant-loop-conflict l = l.board ≡ l.fn.board
