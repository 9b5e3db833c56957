use Rattle.std.proofs.Common.{refl}
use Rattle.pl_acts.proofs.Growing.{grows_copied}
use Rattle.pl_locked.proofs.Turning.{turn_of, took_turn, made_nothing, told_over}
use Rattle.pl_locked.proofs.plan.SharedPlan.round_over.Goals as goal

pub leave-requires-clause-grows : goal.leave-requires-clause-grows
leave-requires-clause-grows g c = let turn = c.enter-held.ensures in grows_copied c.enter-held.new.pass.seat.me.0.seen c.enter-held.result turn.history

pub returns-clause-takes : goal.returns-clause-takes
returns-clause-takes g c =
    let turn = c.enter-held.ensures in
    let left = c.leave.ensures in
    took_turn c.args.pass.now c.enter-held.new.pass c.leave.new.pass c.enter-held.result c.enter-held.result (turn_of c.args.pass.now c.enter-held.new.pass c.leave.new.pass c.enter-held.result c.enter-held.result turn.takes turn.mine turn.history turn.sound
    (grows_copied c.enter-held.new.pass.seat.me.0.seen c.enter-held.result turn.history) left.seen left.sound left.same left.grown left.kept)

pub returns-clause-mine : goal.returns-clause-mine
returns-clause-mine g c =
    let turn = c.enter-held.ensures in
    let left = c.leave.ensures in
    made_nothing c.args.pass.now c.enter-held.new.pass c.leave.new.pass c.enter-held.result c.enter-held.result (turn_of c.args.pass.now c.enter-held.new.pass c.leave.new.pass c.enter-held.result c.enter-held.result turn.takes turn.mine turn.history turn.sound
    (grows_copied c.enter-held.new.pass.seat.me.0.seen c.enter-held.result turn.history) left.seen left.sound left.same left.grown left.kept) refl

pub returns-clause-over : goal.returns-clause-over
returns-clause-over g c =
    let turn = c.enter-held.ensures in
    let left = c.leave.ensures in
    told_over c.args.pass.now c.enter-held.new.pass c.leave.new.pass c.enter-held.result c.enter-held.result (turn_of c.args.pass.now c.enter-held.new.pass c.leave.new.pass c.enter-held.result c.enter-held.result turn.takes turn.mine turn.history turn.sound
    (grows_copied c.enter-held.new.pass.seat.me.0.seen c.enter-held.result turn.history) left.seen left.sound left.same left.grown left.kept) c.round_over-over.result refl c.round_over-over.ensures
