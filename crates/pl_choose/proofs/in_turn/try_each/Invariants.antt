use Rattle.std.proofs.Common.{◌≡◌, ◌<◌, ◌-◌, false, length, map}
use Rattle.pl_choose.specs.Stages.{move_of}
use Rattle.pl_choose.proofs.InTurn.{AreTriedSoFar}
use Rattle.pl_choose.proofs.in_turn.try_each.Given as goal

-- the best so far leads to the best of all
abbrev pub invariant-trials : goal.invariant-trials
invariant-trials l = record {
  are : AreTriedSoFar l.fn.board.state (map move_of l.stages) l.progress l.board;
  at : l.progress.at < length l.stages;
  unspoiled : l.board.spoiled ≡ false;
}

abbrev pub decreases-trials : goal.decreases-trials
decreases-trials l = length l.stages - l.progress.at
