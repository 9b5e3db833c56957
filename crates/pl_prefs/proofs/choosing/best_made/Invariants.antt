use Rattle.std.proofs.Common.{◌≡◌}
use Rattle.std.specs.Prelude.{count_by}
use Rattle.pl_prefs.specs.Chances.{AreGains}
use Rattle.pl_prefs.proofs.Chosen.{is_above}
use Rattle.pl_prefs.proofs.choosing.best_made.Given as goal

-- none of those that were tried is clear
abbrev pub invariant-turns : goal.invariant-turns
invariant-turns g l = record {
  of_all : AreGains l.initial.board.state l.prefers l.moves l.gains;
  same : l.board ≡ l.initial.board;
}

abbrev pub decreases-turns : goal.decreases-turns
decreases-turns g l = count_by is_above l.gains
