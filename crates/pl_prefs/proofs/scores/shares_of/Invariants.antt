use Rattle.std.proofs.Common.{◌≡◌, drop, ◌+ℤ◌}
use Rattle.pl_points.specs.Sums.{total}
use Rattle.pl_prefs.specs.Bounds.{IsWithin}
use Rattle.pl_prefs.specs.Worths.{share_of}
use Rattle.pl_prefs.proofs.scores.shares_of.Given as goal

-- the rest gives the whole
abbrev pub invariant-loop-a : goal.invariant-loop-a
invariant-loop-a l = record {
  sum : l.sum +ℤ total (share_of l.state l.prefer) (drop l.a-index l.activities) ≡ total (share_of l.state l.prefer) l.activities;
  within : IsWithin l.a-index l.sum;
}
