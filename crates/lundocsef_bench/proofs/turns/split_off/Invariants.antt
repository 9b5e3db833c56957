use Rattle.std.proofs.Common.{◌≡◌, true}
use Rattle.std.specs.List.{All}
use Rattle.pl_turn.specs.Passes.{leads, made_by}
use Rattle.lundocsef_bench.specs.Ready.{IsReady}
use Rattle.lundocsef_bench.proofs.turns.split_off.Given as goal

abbrev pub invariant-loop : goal.invariant-loop
invariant-loop l = IsReady l.lock l.first × (leads l.first ≡ true) × (made_by l.first ≡ l.counter) × All (IsReady l.lock) l.passes.items
