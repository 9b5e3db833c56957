use Rattle.std.proofs.Common.{◌∙◌, rules}
use mir.Syntax.{w128}
use mir.Val.{SFits}
use Rattle.std.proofs.lemmas.Int.{to_z-of_z}
use Rattle.pl_prefs.proofs.Gained.{few_then, whole_at, live_at, fits_at, worth_at, can_undo, as_before}
use Rattle.pl_prefs.proofs.gains.worth_then.Goals as goal

pub put_change-requires-clause-can : goal.put_change-requires-clause-can
put_change-requires-clause-can c = c.requires.trial.undone.can

pub worth_of_all-requires-clause-whole : goal.worth_of_all-requires-clause-whole
worth_of_all-requires-clause-whole c = whole_at _ _ _ _ _ _ c.requires.whole c.requires.trial _ c.in_ok-put_change.ensures

pub worth_of_all-requires-clause-live : goal.worth_of_all-requires-clause-live
worth_of_all-requires-clause-live c = rw c.deref.ensures.value (live_at _ _ _ _ _ _ c.requires.whole c.requires.trial _ c.in_ok-put_change.ensures)

pub worth_of_all-requires-clause-few_activities : goal.worth_of_all-requires-clause-few_activities
worth_of_all-requires-clause-few_activities c = rw c.deref.ensures.value (few_then _ _ _ _ _ _ c.requires.whole c.requires.trial)

pub worth_of_all-requires-clause-fits : goal.worth_of_all-requires-clause-fits
worth_of_all-requires-clause-fits c = fits_at _ _ _ _ _ _ c.requires.whole c.requires.trial _ c.in_ok-put_change.ensures c.args.prefers.now c.requires.fits

pub put_change-requires-2-clause-whole : goal.put_change-requires-2-clause-whole
put_change-requires-2-clause-whole c = whole_at _ _ _ _ _ _ c.requires.whole c.requires.trial _ c.in_ok-put_change.ensures

pub put_change-requires-2-clause-can : goal.put_change-requires-2-clause-can
put_change-requires-2-clause-can c = can_undo _ _ _ _ _ _ c.requires.whole c.requires.trial _ c.in_ok-put_change.ensures

pub returns-clause-value : goal.returns-clause-value
returns-clause-value c = to_z-of_z w128 c.in_ok-worth.worth (let fits : SFits w128 c.in_ok-worth.worth = search rules in fits) ∙ (rw c.deref.ensures.value at c.in_ok-worth.ensures.value) ∙ worth_at _ _ _ _ _ _ c.requires.whole c.requires.trial _ c.in_ok-put_change.ensures c.args.prefers.now

pub returns-clause-same : goal.returns-clause-same
returns-clause-same c = as_before _ _ _ _ _ _ c.requires.whole c.requires.trial _ c.in_ok-put_change.ensures _ c.in_ok-put_change-2.ensures
