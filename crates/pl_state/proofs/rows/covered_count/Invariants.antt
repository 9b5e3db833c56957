-- the rows that were passed do not end within the bound
use Rattle.std.proofs.Common.{◌-◌, drop, length}
use Rattle.pl_points.proofs.Parting.{NonePass}
use Rattle.pl_state.specs.Rows.{is_covered, last_passes}
use Rattle.pl_state.proofs.rows.covered_count.Given as goal

abbrev pub invariant-loop-passed : goal.invariant-loop-passed
invariant-loop-passed g l = NonePass (last_passes (is_covered g.T.Keyed.key l.bound)) (drop (length l.rows - l.passed) l.rows)
