use Rattle.std.proofs.Common.{◌≡◌}
use Rattle.pl_prefs.proofs.Chosen.{AreFirstGains}
use Rattle.pl_prefs.proofs.gains.gains.Given as goal

-- the first of them, in a plan state as the board has it
abbrev pub invariant-loop-mv : goal.invariant-loop-mv
invariant-loop-mv l = record {
  gained : AreFirstGains l.board.state l.prefers l.moves l.all.items l.mv-index;
  same : l.s ≡ l.board.state;
}
