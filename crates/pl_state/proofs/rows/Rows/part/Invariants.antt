-- the rest gives the whole
use Rattle.std.proofs.Common.{◌≡◌, ◌++◌, take, drop}
use Rattle.pl_state.specs.Rows.{together}
use Rattle.pl_state.proofs.rows.Rows.part.Given as goal

abbrev pub invariant-loop-row : goal.invariant-loop-row
invariant-loop-row g l = l.part.items ++ take l.left (drop l.skipped (together (drop l.row-index l.row-items))) ≡ take l.count (drop l.from (together l.row-items))
