use Rattle.std.proofs.Common.{◌≡◌, drop, ◌+ℤ◌}
use Rattle.pl_points.specs.Sums.{total}
use Rattle.pl_prefs.specs.Added.{added_by}
use Rattle.pl_prefs.specs.Bounds.{IsSumOf}
use Rattle.pl_prefs.proofs.levels.added.Given as goal

-- the rest gives the whole
abbrev pub invariant-loop-demand : goal.invariant-loop-demand
invariant-loop-demand l = record {
  sum : l.sum +ℤ total (added_by l.base l.until l.line) (drop l.demand-index l.demands) ≡ total (added_by l.base l.until l.line) l.demands;
  within : IsSumOf l.demand-index l.sum;
}
