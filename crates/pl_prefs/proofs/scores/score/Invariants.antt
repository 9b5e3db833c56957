use Rattle.std.proofs.Common.{◌≡◌, ◌*◌, drop, ◌+ℤ◌}
use Rattle.pl_points.specs.Sums.{total}
use Rattle.pl_prefs.specs.Bounds.{IsWithin}
use Rattle.pl_prefs.specs.Scores.{score_of}
use Rattle.pl_prefs.proofs.scores.score.Given as goal

-- the rest gives the whole
abbrev pub invariant-loop-prefer : goal.invariant-loop-prefer
invariant-loop-prefer l = record {
  sum : l.sum +ℤ total (score_of l.board.state) (drop l.prefer-index l.prefers) ≡ total (score_of l.board.state) l.prefers;
  within : IsWithin (l.prefer-index * 10000) l.sum;
}
