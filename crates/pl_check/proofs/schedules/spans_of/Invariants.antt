use Rattle.std.proofs.Common.{◌≡◌, map, take}
use Rattle.pl_check.specs.Networks.{span_of}
use Rattle.pl_check.proofs.schedules.spans_of.Given as goal

abbrev pub invariant-loop-kind : goal.invariant-loop-kind
invariant-loop-kind l = l.spans ≡ map (span_of l.horizon) (take l.kind-index l.kinds)
