use Rattle.pl_acts.proofs.Growing.{grows_executed}
use Rattle.pl_locked.proofs.Turning.{turn_of, took_turn, did}
use Rattle.pl_locked.proofs.plan.SharedPlan.execute.Goals as goal

pub leave-requires-clause-grows : goal.leave-requires-clause-grows
leave-requires-clause-grows g c = let turn = c.enter-held.ensures in grows_executed c.args.by c.enter-held.new.pass.seat.me.0.seen c.enter-held.result c.execute-acted.new.self c.execute-acted.result turn.history turn.sound c.execute-acted.ensures

pub returns-clause-takes : goal.returns-clause-takes
returns-clause-takes g c =
    let turn = c.enter-held.ensures in
    let left = c.leave.ensures in
    took_turn c.args.pass.now c.enter-held.new.pass c.leave.new.pass c.enter-held.result c.execute-acted.new.self (turn_of c.args.pass.now c.enter-held.new.pass c.leave.new.pass c.enter-held.result c.execute-acted.new.self turn.takes turn.mine turn.history turn.sound
    (grows_executed c.args.by c.enter-held.new.pass.seat.me.0.seen c.enter-held.result c.execute-acted.new.self c.execute-acted.result turn.history turn.sound c.execute-acted.ensures) left.seen left.sound left.same left.grown left.kept)

pub returns-clause-acts : goal.returns-clause-acts
returns-clause-acts g c =
    let turn = c.enter-held.ensures in
    let left = c.leave.ensures in
    did c.args.pass.now c.enter-held.new.pass c.leave.new.pass c.enter-held.result c.execute-acted.new.self (turn_of c.args.pass.now c.enter-held.new.pass c.leave.new.pass c.enter-held.result c.execute-acted.new.self turn.takes turn.mine turn.history turn.sound
    (grows_executed c.args.by c.enter-held.new.pass.seat.me.0.seen c.enter-held.result c.execute-acted.new.self c.execute-acted.result turn.history turn.sound c.execute-acted.ensures) left.seen left.sound left.same left.grown left.kept) c.args.by c.execute-acted.result c.execute-acted.ensures
