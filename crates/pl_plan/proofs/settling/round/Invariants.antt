-- the rest gives the whole
use Rattle.std.proofs.Common.{◌≡◌, ◌++◌, length, drop}
use Rattle.pl_plan.specs.Values.{round_from}
use Rattle.pl_plan.proofs.settling.round.Given as goal

abbrev pub invariant-loop-number : goal.invariant-loop-number
invariant-loop-number l = record {
  rest : l.next ++ round_from l.number (drop l.number l.params) l.set l.bindings l.above l.own ≡ round_from 0 l.params l.set l.bindings l.above l.own;
  len : length l.next ≡ l.number;
}
