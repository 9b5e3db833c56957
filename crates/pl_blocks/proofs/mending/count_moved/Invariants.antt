use Rattle.std.proofs.Common.{◌≡◌, ◌+◌}
use Rattle.pl_blocks.proofs.mending.count_moved.Given as goal

abbrev pub invariant-loop-moved : goal.invariant-loop-moved
invariant-loop-moved g l = l.steps ≡ l.fn.steps + l.moved
