use Rattle.std.proofs.Common.{◌≡◌, length, replicate, None}
use Rattle.pl_plan.specs.Values.{round_from, rounds}
use Rattle.pl_plan.proofs.settling.settle.Given as goal

abbrev pub invariant-loop-round : goal.invariant-loop-round
invariant-loop-round l = record {
  done : l.own ≡ rounds l._round (λ own. round_from 0 l.params l.set l.bindings l.above own) (replicate (length l.params) None);
  len : length l.own ≡ length l.params;
}
