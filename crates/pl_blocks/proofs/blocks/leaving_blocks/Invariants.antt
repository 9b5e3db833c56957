-- the rest gives the whole
use Rattle.std.proofs.Common.{◌≡◌, ◌≤◌, ◌+◌, drop}
use Rattle.pl_points.specs.Points.{leaving, SmallFrom}
use Rattle.pl_blocks.specs.Blocks.{together}
use Rattle.pl_blocks.proofs.blocks.leaving_blocks.Given as goal

abbrev pub invariant-loop-block : goal.invariant-loop-block
invariant-loop-block g l = record {
  rest : leaving l.least l.most l.sum (together (drop l.block-index l.blocks)) ≡ leaving l.least l.most l.fn.before (together l.blocks);
  small : SmallFrom l.sum (together (drop l.block-index l.blocks));
  more : l.fn.steps ≤ l.steps;
  few : l.steps ≤ l.fn.steps + l.block-index;
}
