-- the block that was looked at last does not lie whole before the moment
use Rattle.std.proofs.Common.{◌≡◌, ◌<◌, ◌≤◌, ◌-◌, length, get_or, [], false}
use Rattle.pl_blocks.specs.Blocks.{is_past}
use Rattle.pl_blocks.proofs.finding.past_late.Given as goal

abbrev pub invariant-loop-behind : goal.invariant-loop-behind
invariant-loop-behind l = record {
  bound : l.behind ≤ length l.blocks;
  reaches : 0 < l.behind → is_past l.at (get_or l.blocks (length l.blocks - l.behind) []) ≡ false;
}
