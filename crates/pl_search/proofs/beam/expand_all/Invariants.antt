-- the board is as it was
use Rattle.std.proofs.Common.{◌≡◌}
use Rattle.pl_search.proofs.beam.expand_all.Given as goal

abbrev pub invariant-loop-node : goal.invariant-loop-node
invariant-loop-node l = l.board ≡ l.fn.board
