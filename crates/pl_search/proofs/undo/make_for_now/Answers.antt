use Rattle.pl_search.proofs.undo.make_for_now.Goals as goal

pub trial_of-requires-clause-proper : goal.trial_of-requires-clause-proper
trial_of-requires-clause-proper c = rw c.state.ensures.value c.requires.allowed.can.proper

pub trial_of-requires-clause-allowed : goal.trial_of-requires-clause-allowed
trial_of-requires-clause-allowed c = rw c.state.ensures.value c.requires.allowed.can.allowed

pub trial_of-requires-clause-next : goal.trial_of-requires-clause-next
trial_of-requires-clause-next c = rw c.state.ensures.value c.requires.allowed.next

pub make_trial-requires-clause-undone : goal.make_trial-requires-clause-undone
make_trial-requires-clause-undone c = rw c.state.ensures.value at c.in_ok-trial.ensures.undone
