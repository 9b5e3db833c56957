use Rattle.std.proofs.Common.{◌≡◌, take}
use Rattle.pl_times.specs.Mirror.{negated}
use Rattle.pl_times.proofs.mirror.negatives.Given as goal

abbrev pub invariant-loop-time : goal.invariant-loop-time
invariant-loop-time l = l.all.items ≡ negated (take l.time-index l.times)
