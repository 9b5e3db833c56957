-- the spans up to the moment that the loop has come to, and the sets that are passed there
use Rattle.std.proofs.Common.{◌≡◌, ◌≤◌, ◌-◌, ◌==◌, not, length, take, drop}
use Rattle.pl_lists.specs.Lists.{front, back}
use Rattle.pl_points.specs.Spans.{AreMaximal}
use Rattle.pl_state.specs.Sets.{is_passed, state_from}
use Rattle.pl_state.proofs.pieces.failing_spans.Given as goal

abbrev pub invariant-pieces : goal.invariant-pieces
invariant-pieces l = record {
  low : l.window.from ≤ l.at;
  high : l.at ≤ l.window.to;
  bound : l.passed ≤ length l.sets;
  front : take l.passed l.sets ≡ front (is_passed l.at) l.sets;
  rest : drop l.passed l.sets ≡ back (is_passed l.at) l.sets;
  maximal : AreMaximal (λ t. not (state_from l.base t l.value l.sets == l.state)) l.window.from l.at l.spans.items;
}

abbrev pub decreases-pieces : goal.decreases-pieces
decreases-pieces l = l.window.to - l.at
