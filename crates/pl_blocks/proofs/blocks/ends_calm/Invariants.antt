-- what lies before a block, and no sum from it on is outside
use Rattle.std.proofs.Common.{◌≡◌, ◌≤◌, take, drop, false}
use Rattle.std.specs.Prelude.{is_some}
use Rattle.pl_points.specs.Points.{leaving}
use Rattle.pl_blocks.specs.Blocks.{together, change_of}
use Rattle.pl_blocks.proofs.blocks.ends_calm.Given as goal

abbrev pub invariant-loop-here : goal.invariant-loop-here
invariant-loop-here l = record {
  low : l.place ≤ l.here;
  start : l.start ≡ change_of (together (take l.here l.blocks));
  calm : is_some (leaving l.least l.most l.start (together (drop l.here l.blocks))) ≡ false;
}
