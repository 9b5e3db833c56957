-- the move that is made, and what those up to it leave
use Rattle.std.proofs.Common.{◌≡◌, ◌∷◌, ◌≤◌, ◌-◌, map, length, get_or}
use Rattle.std.specs.Prelude.{take}
use Rattle.pl_semantics.specs.Moves.{applied}
use Rattle.pl_board.specs.Boards.{after}
use Rattle.pl_moves.specs.Runs.{counted}
use Rattle.pl_moves.proofs.runs.count_along.Given as goal

abbrev pub invariant-run : goal.invariant-run
invariant-run g l = record {
  made : l.board ≡ after (applied l.fn.board.state (get_or (l.first ∷ l.rest) l.at l.first));
  noted : l.others.items ≡ map (counted l.fn.board.state) (take l.at l.rest);
  few : l.at ≤ length l.rest;
}

abbrev pub decreases-run : goal.decreases-run
decreases-run g l = length l.rest - l.at
