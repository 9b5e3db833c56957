-- the board is as it was
use Rattle.std.proofs.Common.{◌≡◌}
use Rattle.pl_search.proofs.mending.mend.Given as goal

abbrev pub invariant-loop-number : goal.invariant-loop-number
invariant-loop-number l = l.board ≡ l.fn.board
