use Rattle.std.proofs.Common.{arith}
use Rattle.std.proofs.lemmas.Int.{ints}
use Rattle.pl_prefs.proofs.Gained.{live_before, few_before, gain_made}
use Rattle.pl_prefs.proofs.gains.gain_of.Goals as goal

pub worth_of_all-requires-clause-live : goal.worth_of_all-requires-clause-live
worth_of_all-requires-clause-live c = rw c.deref.ensures.value (live_before _ _ _ _ _ _ c.requires.whole c.in_ok-trial.ensures)

pub worth_of_all-requires-clause-few_activities : goal.worth_of_all-requires-clause-few_activities
worth_of_all-requires-clause-few_activities c = rw c.deref.ensures.value (few_before _ _ _ _ _ _ c.requires.whole c.in_ok-trial.ensures)

pub returns-clause-gain : goal.returns-clause-gain
returns-clause-gain c =
    let before = rw c.deref.ensures.value at c.in_ok-before.ensures.value in
    let law = gain_made c.args.s.now c.args.mv.now c.requires.whole c.requires.next c.requires.allowed c.requires.activities c.args.prefers.now _ _ c.in_ok-trial.ensures.placed_is c.in_ok-trial.ensures.returning_is in
    omega (arith, ints, before, c.in_ok-then.ensures.value, law, c.in_ok-before.ensures.within, c.in_ok-then.ensures.within)
