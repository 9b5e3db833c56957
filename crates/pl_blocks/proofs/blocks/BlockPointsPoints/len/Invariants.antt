-- the rest gives the whole
use Rattle.std.proofs.Common.{◌≡◌, ◌+◌, drop, length}
use Rattle.pl_blocks.specs.Blocks.{together}
use Rattle.pl_blocks.proofs.blocks.BlockPointsPoints.len.Given as goal

abbrev pub invariant-loop-block : goal.invariant-loop-block
invariant-loop-block l = l.count + length (together (drop l.block-index l.block-items)) ≡ length (together l.block-items)
