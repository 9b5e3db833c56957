use Rattle.std.specs.Prelude.{All}
use Rattle.pl_moves.specs.Runs.{CanBeMade}
use Rattle.trials_planner.proofs.board.moves.legal_moves.Given as goal

abbrev pub invariant-lines : goal.invariant-lines
invariant-lines l = All (CanBeMade l.board.state) l.moves.items
