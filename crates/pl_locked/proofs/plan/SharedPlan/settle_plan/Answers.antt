use Rattle.pl_acts.proofs.Growing.{grows_settled}
use Rattle.pl_locked.proofs.Turning.{turn_of, settle_moves, settle_replica, took_turn, settled}
use Rattle.pl_locked.proofs.plan.SharedPlan.settle_plan.Goals as goal

pub settle-acted-requires-clause-repair : goal.settle-acted-requires-clause-repair
settle-acted-requires-clause-repair g c =
    let turn = c.enter-held.ensures in settle_moves c.args.pass.now c.enter-held.new.pass c.enter-held.result c.args.sight turn.takes turn.history turn.sound c.requires.sight

pub settle-acted-requires-clause-replica : goal.settle-acted-requires-clause-replica
settle-acted-requires-clause-replica g c =
    let turn = c.enter-held.ensures in settle_replica c.args.pass.now c.enter-held.new.pass c.enter-held.result c.args.sight turn.takes turn.history turn.sound c.requires.sight

pub leave-requires-clause-grows : goal.leave-requires-clause-grows
leave-requires-clause-grows g c = let turn = c.enter-held.ensures in grows_settled c.args.by c.args.chooser.now c.settle-acted.new.chooser c.args.sight.proposal c.enter-held.new.pass.seat.me.0.seen c.enter-held.result c.settle-acted.new.self c.settle-acted.result turn.history turn.sound c.settle-acted.ensures

pub returns-clause-takes : goal.returns-clause-takes
returns-clause-takes g c =
    let turn = c.enter-held.ensures in
    let left = c.leave.ensures in
    took_turn c.args.pass.now c.enter-held.new.pass c.leave.new.pass c.enter-held.result c.settle-acted.new.self (turn_of c.args.pass.now c.enter-held.new.pass c.leave.new.pass c.enter-held.result c.settle-acted.new.self turn.takes turn.mine turn.history turn.sound
    (grows_settled c.args.by c.args.chooser.now c.settle-acted.new.chooser c.args.sight.proposal c.enter-held.new.pass.seat.me.0.seen c.enter-held.result c.settle-acted.new.self c.settle-acted.result turn.history turn.sound c.settle-acted.ensures) left.seen left.sound left.same left.grown left.kept)

pub returns-clause-settles : goal.returns-clause-settles
returns-clause-settles g c =
    let turn = c.enter-held.ensures in
    let left = c.leave.ensures in
    settled c.args.pass.now c.enter-held.new.pass c.leave.new.pass c.enter-held.result c.settle-acted.new.self (turn_of c.args.pass.now c.enter-held.new.pass c.leave.new.pass c.enter-held.result c.settle-acted.new.self turn.takes turn.mine turn.history turn.sound
    (grows_settled c.args.by c.args.chooser.now c.settle-acted.new.chooser c.args.sight.proposal c.enter-held.new.pass.seat.me.0.seen c.enter-held.result c.settle-acted.new.self c.settle-acted.result turn.history turn.sound c.settle-acted.ensures) left.seen left.sound left.same left.grown left.kept) c.args.by c.args.chooser.now c.settle-acted.new.chooser c.args.sight c.settle-acted.result c.requires.sight c.settle-acted.ensures
