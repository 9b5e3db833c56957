use Rattle.lundocsef_bench.specs.Ready.{IsReady}
use Rattle.lundocsef_bench.proofs.turns.take_turns.Given as goal

abbrev pub invariant-loop-turn : goal.invariant-loop-turn
invariant-loop-turn g l = IsReady l.lock l.pass
