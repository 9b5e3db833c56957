use Rattle.std.specs.Prelude.{All}
use Rattle.lundocsef_bench.specs.Questions.{CanBeAsked}
use Rattle.lundocsef_bench.proofs.questions.questions_of.Given as goal

abbrev pub invariant-conflicts : goal.invariant-conflicts
invariant-conflicts l = All (CanBeAsked l.board.state) l.all.items
