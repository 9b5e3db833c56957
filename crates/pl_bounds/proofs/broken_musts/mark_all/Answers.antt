use Rattle.std.proofs.Common.{arith}
use Rattle.pl_bounds.proofs.Having.{has_same}
use Rattle.pl_bounds.proofs.broken_musts.mark_all.Goals as goal

pub musts_at-requires-clause-states : goal.musts_at-requires-clause-states
musts_at-requires-clause-states c = λ _. c.requires.new.states

pub musts_at-requires-clause-now : goal.musts_at-requires-clause-now
musts_at-requires-clause-now c = λ _. omega (arith, c.requires.new.later)

pub musts_at-requires-clause-before_horizon : goal.musts_at-requires-clause-before_horizon
musts_at-requires-clause-before_horizon c = λ _. c.requires.new.horizon

pub mark_must-requires-clause-needed : goal.mark_must-requires-clause-needed
mark_must-requires-clause-needed c = ((c.in_ok-musts.ensures c.requires.unspoiled _).0 (has_same c.as_slice-must-items.result.now c.in_ok-musts.musts.items c.as_slice-must-items.ensures.value c.loop-must.must-index _ c.loop-must-test.true)).0

pub mark_must-requires-clause-holds : goal.mark_must-requires-clause-holds
mark_must-requires-clause-holds c = ((c.in_ok-musts.ensures c.requires.unspoiled _).0 (has_same c.as_slice-must-items.result.now c.in_ok-musts.musts.items c.as_slice-must-items.ensures.value c.loop-must.must-index _ c.loop-must-test.true)).1
