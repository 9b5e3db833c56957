use Rattle.std.proofs.Common.{◌≡◌, drop, ◌+ℤ◌}
use Rattle.pl_points.specs.Sums.{total}
use Rattle.pl_prefs.specs.Bounds.{IsWithin}
use Rattle.pl_prefs.specs.Worths.{worth_for}
use Rattle.pl_prefs.proofs.worths.worth_with.Given as goal

-- the rest gives the whole
abbrev pub invariant-loop-prefer : goal.invariant-loop-prefer
invariant-loop-prefer l = record {
  sum : l.sum +ℤ total (worth_for l.s l.a) (drop l.prefer-index l.prefers) ≡ total (worth_for l.s l.a) l.prefers;
  within : IsWithin l.prefer-index l.sum;
}
