use Rattle.std.proofs.Common.{◌≡◌, ◌*◌, drop, ◌+ℤ◌}
use Rattle.pl_points.specs.Sums.{total}
use Rattle.pl_prefs.specs.Bounds.{IsWithin}
use Rattle.pl_prefs.specs.Worths.{worth}
use Rattle.pl_prefs.proofs.worths.worth_of_all.Given as goal

-- the rest gives the whole
abbrev pub invariant-loop-a : goal.invariant-loop-a
invariant-loop-a l = record {
  sum : l.sum +ℤ total (worth l.s l.prefers) (drop l.a-index l.activities) ≡ total (worth l.s l.prefers) l.activities;
  within : IsWithin (64 * l.a-index) l.sum;
}
