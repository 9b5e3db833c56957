-- Moves that a board may be asked about.
use Rattle.std.specs.Prelude.{All}
use Rattle.pl_semantics.specs.declared.plan_state.PlanState.{PlanState}
use Rattle.pl_moves.specs.Runs.{CanBeMade}
use Rattle.lundocsef_bench.specs.declared.questions.Question.{Question}

-- each of its moves is proper, and nothing refuses it
abbrev pub CanBeAsked : PlanState → Question → Type 0
CanBeAsked s q = All (CanBeMade s) q.moves.items
