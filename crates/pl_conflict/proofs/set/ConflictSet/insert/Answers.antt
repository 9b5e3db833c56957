use Rattle.pl_conflict.proofs.set.ConflictSet.insert.Goals as goal

pub returns-clause-members : goal.returns-clause-members
returns-clause-members c = λ q. rw (← c.self.view_is) (c.in_ok-insert.ensures.updates.0 q)
