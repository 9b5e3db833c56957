use Rattle.pl_state.specs.Rows.{is_covered}
use Rattle.pl_state.proofs.Nearby.{AllPassed}
use Rattle.pl_state.proofs.rows.few_covered.Given as goal

abbrev pub invariant-loop-place : goal.invariant-loop-place
invariant-loop-place g l = AllPassed (is_covered g.T.Keyed.key l.bound) l.items 0 l.place
