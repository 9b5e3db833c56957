use Rattle.std.proofs.Common.{refl}
use Rattle.pl_acts.proofs.Growing.{grows_stopped}
use Rattle.pl_locked.proofs.Turning.{turn_of, took_turn, stops}
use Rattle.pl_locked.proofs.plan.SharedPlan.stop_as.Goals as goal

pub leave-requires-clause-grows : goal.leave-requires-clause-grows
leave-requires-clause-grows g c = let turn = c.enter-held.ensures in grows_stopped c.args.by c.enter-held.new.pass.seat.me.0.seen c.enter-held.result c.stop.new.self turn.history c.stop.ensures.plan c.stop.ensures.first c.stop.ensures.again

pub returns-clause-takes : goal.returns-clause-takes
returns-clause-takes g c =
    let turn = c.enter-held.ensures in
    let left = c.leave.ensures in
    took_turn c.args.pass.now c.enter-held.new.pass c.leave.new.pass c.enter-held.result c.stop.new.self (turn_of c.args.pass.now c.enter-held.new.pass c.leave.new.pass c.enter-held.result c.stop.new.self turn.takes turn.mine turn.history turn.sound
    (grows_stopped c.args.by c.enter-held.new.pass.seat.me.0.seen c.enter-held.result c.stop.new.self turn.history c.stop.ensures.plan c.stop.ensures.first c.stop.ensures.again) left.seen left.sound left.same left.grown left.kept)

pub returns-clause-stops : goal.returns-clause-stops
returns-clause-stops g c =
    let turn = c.enter-held.ensures in
    let left = c.leave.ensures in
    stops c.args.by c.args.pass.now c.enter-held.new.pass c.leave.new.pass c.enter-held.result c.stop.new.self (turn_of c.args.pass.now c.enter-held.new.pass c.leave.new.pass c.enter-held.result c.stop.new.self turn.takes turn.mine turn.history turn.sound
    (grows_stopped c.args.by c.enter-held.new.pass.seat.me.0.seen c.enter-held.result c.stop.new.self turn.history c.stop.ensures.plan c.stop.ensures.first c.stop.ensures.again) left.seen left.sound left.same left.grown left.kept) c.stop.ensures.plan c.stop.ensures.first c.stop.ensures.again _ refl
