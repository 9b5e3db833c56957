use Rattle.std.proofs.Common.{◌-◌, ◌≤◌, length}
use Rattle.pl_bounds.proofs.further_looks.place_of.Given as goal

abbrev pub invariant-places : goal.invariant-places
invariant-places l = l.place ≤ length l.all

abbrev pub decreases-places : goal.decreases-places
decreases-places l = length l.all - l.place
