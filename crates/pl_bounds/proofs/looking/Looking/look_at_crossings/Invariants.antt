-- right looks by rising moments, and a moment from the present up to the end
use Rattle.std.proofs.Common.{◌≡◌, ◌≤◌, ◌-◌}
use Rattle.pl_bounds.specs.Looks.{AreLooksAt}
use Rattle.pl_bounds.proofs.looking.Looking.look_at_crossings.Given as goal

abbrev pub invariant-crossings : goal.invariant-crossings
invariant-crossings l = record {
  looks : AreLooksAt l.board.state l.side l.line l.self.next l.self.looks.items;
  now : l.board.state.moment ≤ l.at;
  before : l.at ≤ l.end;
  end : l.end ≡ l.board.state.model.horizon;
}

abbrev pub decreases-crossings : goal.decreases-crossings
decreases-crossings l = 8 - l.count
