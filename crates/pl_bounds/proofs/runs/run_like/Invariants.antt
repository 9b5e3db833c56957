use Rattle.std.proofs.Common.{◌≤◌, length}
use Rattle.pl_bounds.proofs.runs.run_like.Given as goal

abbrev pub invariant-places : goal.invariant-places
invariant-places l = l.place ≤ length l.runs

abbrev pub decreases-places : goal.decreases-places
decreases-places l = l.place
