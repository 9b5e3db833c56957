-- those that are left give the whole
use Rattle.std.proofs.Common.{◌≡◌, take}
use Rattle.pl_state.proofs.rows.Rows.copy.Given as goal

abbrev pub invariant-loop-row : goal.invariant-loop-row
invariant-loop-row g l = l.rows.items ≡ take l.row-index l.row-items
