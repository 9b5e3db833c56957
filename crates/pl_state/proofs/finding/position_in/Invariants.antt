-- none stands before the place
use Rattle.pl_state.proofs.Seeking.{IsSought}
use Rattle.pl_state.proofs.finding.position_in.Given as goal

abbrev pub invariant-loop-place : goal.invariant-loop-place
invariant-loop-place g l = IsSought g.T.Keyed.same l.item l.rows l.place
