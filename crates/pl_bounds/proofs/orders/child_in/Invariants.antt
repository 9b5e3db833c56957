-- children are gone through by rising id
use Rattle.std.proofs.Common.{◌-◌}
use Rattle.pl_bounds.proofs.orders.child_in.Given as goal

abbrev pub decreases-children : goal.decreases-children
decreases-children l = l.board.state.next_id - l.last
