-- the best so far leads to the best of all
use Rattle.std.proofs.Common.{◌≡◌, drop}
use Rattle.pl_semantics.specs.Legal.{left_after}
use Rattle.pl_choose.specs.Tried.{best_of}
use Rattle.pl_choose.proofs.tries.best_among.Given as goal

abbrev pub invariant-loop-place : goal.invariant-loop-place
invariant-loop-place l = record {
  same : l.board ≡ l.fn.board;
  leads : best_of (left_after l.fn.board.state) l.best (drop l.place l.moves) ≡ best_of (left_after l.fn.board.state) l.fn.first l.moves;
}
