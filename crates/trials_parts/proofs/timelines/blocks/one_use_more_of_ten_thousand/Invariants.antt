-- so many uses stand
use Rattle.std.proofs.Common.{◌≡◌, length}
use Rattle.trials_parts.proofs.timelines.blocks.one_use_more_of_ten_thousand.Given as goal

abbrev pub invariant-loop-i : goal.invariant-loop-i
invariant-loop-i g l = length l.capacity.uses ≡ l.i
