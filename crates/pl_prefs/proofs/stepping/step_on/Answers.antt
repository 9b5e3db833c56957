use Rattle.std.proofs.Common.{subst}
use Rattle.pl_semantics.specs.Whole.{IsWhole}
use Rattle.pl_prefs.proofs.stepping.step_on.Goals as goal

pub best_made-requires-clause-gains : goal.best_made-requires-clause-gains
best_made-requires-clause-gains g c = rw (c.deref.ensures.value, c.deref_mut.ensures.value) c.in-Ok.ensures.gains

pub returns-in-Ok-clause-chosen : goal.returns-in-Ok-clause-chosen
returns-in-Ok-clause-chosen g c = rw (c.deref.ensures.value, c.in-Ok.ensures.moves) at c.best_made.ensures.chosen

pub returns-in-Ok-clause-whole : goal.returns-in-Ok-clause-whole
returns-in-Ok-clause-whole g c = subst IsWhole c.state-state.ensures.value (c.state-state.ensures.whole c.requires.unspoiled)

pub returns-in-Err-clause-whole : goal.returns-in-Err-clause-whole
returns-in-Err-clause-whole g c = subst IsWhole c.state-state.ensures.value (c.state-state.ensures.whole c.requires.unspoiled)
