-- the rest gives the whole
use Rattle.std.proofs.Common.{◌≡◌, ◌+◌, drop, ◌+ℤ◌}
use Rattle.pl_points.specs.Points.{AreNear}
use Rattle.pl_blocks.specs.Blocks.{together, change_of}
use Rattle.pl_blocks.proofs.summing.sum_of.Given as goal

abbrev pub invariant-loop-block : goal.invariant-loop-block
invariant-loop-block g l = record {
  rest : l.sum +ℤ change_of (together (drop l.block-index l.blocks)) ≡ change_of (together l.blocks);
  near : AreNear l.sum (together (drop l.block-index l.blocks));
  count : l.steps ≡ l.fn.steps + l.block-index;
}
