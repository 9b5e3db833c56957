use Rattle.pl_prefs.proofs.stepping.chances_of.Goals as goal

pub returns-clause-gains : goal.returns-clause-gains
returns-clause-gains c = rw c.deref.ensures.value at c.in_ok-gains.ensures
