use Rattle.std.proofs.Common.{arith}
use Rattle.pl_plan.proofs.Kept.{each_found}
use Rattle.pl_prefs.proofs.scores.shares.Goals as goal

pub shares_of-requires-clause-live : goal.shares_of-requires-clause-live
shares_of-requires-clause-live c = rw c.activities.ensures.value (each_found c.args.state.now.plan.activities c.requires.whole.rising)

pub shares_of-requires-clause-few : goal.shares_of-requires-clause-few
shares_of-requires-clause-few c = rw c.activities.ensures.value (omega (arith, c.requires.whole.live, c.requires.whole.limit))
