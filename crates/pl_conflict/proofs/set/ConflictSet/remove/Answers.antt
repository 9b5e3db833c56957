use Rattle.pl_conflict.proofs.set.ConflictSet.remove.Goals as goal

pub returns-clause-members : goal.returns-clause-members
returns-clause-members c = λ q. rw (← c.self.view_is) (c.remove.ensures.updates.0 q)
