use Rattle.std.proofs.Common.{ap, length, arith}
use Rattle.pl_semantics.proofs.Found.{found_here}
use Rattle.pl_cand.proofs.user_list.add_users.Goals as goal

pub add_if_user-requires-clause-live : goal.add_if_user-requires-clause-live
add_if_user-requires-clause-live c =
    found_here c.activities-activities.result.now c.args.state.now.plan.activities c.activities-activities.ensures.value c.requires.whole.rising
    c.loop-place.place c.index-activities-place.result (omega (arith, c.loop-place-test.true, c.requires.behind, ap length c.activities-activities.ensures.value)) c.index-activities-place.is
