-- the rest gives the whole
use Rattle.std.proofs.Common.{◌≡◌, drop}
use Rattle.pl_plan.specs.Firm.{are_in_range}
use Rattle.pl_plan.proofs.firmness.are_in_range.Given as goal

abbrev pub invariant-loop-number : goal.invariant-loop-number
invariant-loop-number l = are_in_range l.number (drop l.number l.params) l.values ≡ are_in_range 0 l.params l.values
