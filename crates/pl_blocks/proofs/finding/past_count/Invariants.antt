-- the blocks before `low` lie before the moment, those from `high` on do not
use Rattle.std.proofs.Common.{◌≡◌, ◌<◌, ◌≤◌, ◌+◌, ◌-◌, ◌^◌, ℕ, length, get_or, [], true, false}
use Rattle.pl_blocks.specs.Blocks.{is_past}
use Rattle.pl_blocks.proofs.finding.past_count.Given as goal

abbrev pub invariant-halves : goal.invariant-halves
invariant-halves g l = record {
  order : l.low ≤ l.high;
  bound : l.high ≤ length l.blocks;
  past : (k : ℕ) → k < l.low → is_past l.at (get_or l.blocks k []) ≡ true;
  rest : (k : ℕ) → l.high ≤ k → k < length l.blocks → is_past l.at (get_or l.blocks k []) ≡ false;
  more : l.fn.steps ≤ l.steps;
  few : l.steps ≤ l.fn.steps + 26;
  room : l.high - l.low < 2 ^ ((26 + l.fn.steps) - l.steps);
}

abbrev pub decreases-halves : goal.decreases-halves
decreases-halves g l = l.high - l.low
