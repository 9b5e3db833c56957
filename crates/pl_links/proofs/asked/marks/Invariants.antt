use Rattle.std.proofs.Common.{◌≡◌}
use Rattle.pl_links.specs.Asked.{asked_below}
use Rattle.pl_links.proofs.asked.marks.Given as goal

abbrev pub invariant-loop-kind : goal.invariant-loop-kind
invariant-loop-kind l = l.marks ≡ asked_below l.point l.kinds l.kind
