use Rattle.std.proofs.Common.{◌≡◌, length}
use Rattle.lundocsef_bench.proofs.capacities.changed.Given as goal

abbrev pub invariant-loop-index : goal.invariant-loop-index
invariant-loop-index g l = length l.timeline.uses ≡ length l.fn.timeline.uses
