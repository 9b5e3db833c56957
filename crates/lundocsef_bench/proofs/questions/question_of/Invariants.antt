use Rattle.std.specs.Prelude.{All}
use Rattle.pl_moves.specs.Runs.{CanBeMade}
use Rattle.lundocsef_bench.proofs.questions.question_of.Given as goal

abbrev pub invariant-moves : goal.invariant-moves
invariant-moves l = All (CanBeMade l.board.state) l.moves.items
