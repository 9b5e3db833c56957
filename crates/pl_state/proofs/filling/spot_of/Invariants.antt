use Rattle.pl_state.proofs.InRows.{IsNear}
use Rattle.pl_state.proofs.filling.spot_of.Given as goal

abbrev pub invariant-rows : goal.invariant-rows
invariant-rows g l = IsNear l.rows l.place l.row l.behind

abbrev pub decreases-rows : goal.decreases-rows
decreases-rows g l = l.row
