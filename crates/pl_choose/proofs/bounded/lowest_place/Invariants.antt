-- one of them
use Rattle.std.proofs.Common.{◌<◌, length}
use Rattle.pl_choose.proofs.bounded.lowest_place.Given as goal

abbrev pub invariant-loop-place : goal.invariant-loop-place
invariant-loop-place l = l.lowest < length l.bounds
