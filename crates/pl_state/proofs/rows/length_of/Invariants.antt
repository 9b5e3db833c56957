-- the rest gives the whole
use Rattle.std.proofs.Common.{◌≡◌, ◌+◌, drop, length}
use Rattle.pl_state.specs.Rows.{together}
use Rattle.pl_state.proofs.rows.length_of.Given as goal

abbrev pub invariant-loop-row : goal.invariant-loop-row
invariant-loop-row g l = l.count + length (together (drop l.row-index l.rows)) ≡ length (together l.rows)
