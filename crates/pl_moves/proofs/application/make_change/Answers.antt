use Rattle.pl_moves.proofs.application.make_change.Goals as goal

pub replace-requires : goal.replace-requires
replace-requires g c = record { can = λ _. rw (c.deref.ensures.value, c.deref-2.ensures.value) c.requires.can }

pub returns-clause-ok : goal.returns-clause-ok
returns-clause-ok g c = rw (c.deref.ensures.value, c.deref-2.ensures.value) at c.replace.ensures.ok
