-- the move that is made
use Rattle.std.proofs.Common.{◌≡◌, ◌∷◌, ◌≤◌, ◌-◌, length, get_or}
use Rattle.pl_semantics.specs.Moves.{applied}
use Rattle.pl_board.specs.Boards.{after}
use Rattle.pl_search.proofs.tries.Tries.look_along.Given as goal

abbrev pub invariant-run : goal.invariant-run
invariant-run l = record {
  made : l.board ≡ after (applied l.fn.board.state (get_or (l.first ∷ l.rest) l.at l.first));
  few : l.at ≤ length l.rest;
}

abbrev pub decreases-run : goal.decreases-run
decreases-run l = length l.rest - l.at
