use Rattle.pl_moves.proofs.attempting.attempt_change.Goals as goal

pub trial_of-requires-clause-proper : goal.trial_of-requires-clause-proper
trial_of-requires-clause-proper g c = rw c.state.ensures.value c.requires.allowed.proper

pub trial_of-requires-clause-allowed : goal.trial_of-requires-clause-allowed
trial_of-requires-clause-allowed g c = rw c.state.ensures.value c.requires.allowed.allowed

pub trial_of-requires-clause-next : goal.trial_of-requires-clause-next
trial_of-requires-clause-next g c = rw c.state.ensures.value c.requires.next

pub attempt_between-requires-clause-trial : goal.attempt_between-requires-clause-trial
attempt_between-requires-clause-trial g c = rw c.state.ensures.value at c.in-Ok.ensures
