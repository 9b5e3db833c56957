use Rattle.pl_acts.proofs.Growing.{grows_either}
use Rattle.pl_locked.proofs.Turning.{turn_of, took_turn, looked_or_repaired, look_rests}
use Rattle.pl_locked.proofs.plan.SharedPlan.look.Goals as goal

pub leave-requires-clause-grows : goal.leave-requires-clause-grows
leave-requires-clause-grows g c = let turn = c.enter-held.ensures in grows_either c.args.by c.args.chooser.now c.look_or_repair-looked.new.chooser c.enter-held.new.pass.seat.me.0.seen c.enter-held.result c.look_or_repair-looked.new.self c.look_or_repair-looked.result turn.history turn.sound c.look_or_repair-looked.ensures.acts

pub returns-clause-takes : goal.returns-clause-takes
returns-clause-takes g c =
    let turn = c.enter-held.ensures in
    let left = c.leave.ensures in
    took_turn c.args.pass.now c.enter-held.new.pass c.leave.new.pass c.enter-held.result c.look_or_repair-looked.new.self (turn_of c.args.pass.now c.enter-held.new.pass c.leave.new.pass c.enter-held.result c.look_or_repair-looked.new.self turn.takes turn.mine turn.history turn.sound
    (grows_either c.args.by c.args.chooser.now c.look_or_repair-looked.new.chooser c.enter-held.new.pass.seat.me.0.seen c.enter-held.result c.look_or_repair-looked.new.self c.look_or_repair-looked.result turn.history turn.sound c.look_or_repair-looked.ensures.acts) left.seen left.sound left.same left.grown left.kept)

pub returns-clause-looks : goal.returns-clause-looks
returns-clause-looks g c =
    let turn = c.enter-held.ensures in
    let left = c.leave.ensures in
    looked_or_repaired c.args.pass.now c.enter-held.new.pass c.leave.new.pass c.enter-held.result c.look_or_repair-looked.new.self (turn_of c.args.pass.now c.enter-held.new.pass c.leave.new.pass c.enter-held.result c.look_or_repair-looked.new.self turn.takes turn.mine turn.history turn.sound
    (grows_either c.args.by c.args.chooser.now c.look_or_repair-looked.new.chooser c.enter-held.new.pass.seat.me.0.seen c.enter-held.result c.look_or_repair-looked.new.self c.look_or_repair-looked.result turn.history turn.sound c.look_or_repair-looked.ensures.acts) left.seen left.sound left.same left.grown left.kept) c.args.by c.args.chooser.now c.look_or_repair-looked.new.chooser c.look_or_repair-looked.result c.look_or_repair-looked.ensures.acts

pub returns-clause-rests : goal.returns-clause-rests
returns-clause-rests g c =
    let turn = c.enter-held.ensures in
    let left = c.leave.ensures in
    λ off.
    let looks = c.look_or_repair-looked.ensures.looks off in
    look_rests c.args.pass.now c.enter-held.new.pass c.leave.new.pass c.enter-held.result c.look_or_repair-looked.new.self (turn_of c.args.pass.now c.enter-held.new.pass c.leave.new.pass c.enter-held.result c.look_or_repair-looked.new.self turn.takes turn.mine turn.history turn.sound
    (grows_either c.args.by c.args.chooser.now c.look_or_repair-looked.new.chooser c.enter-held.new.pass.seat.me.0.seen c.enter-held.result c.look_or_repair-looked.new.self c.look_or_repair-looked.result turn.history turn.sound c.look_or_repair-looked.ensures.acts) left.seen left.sound left.same left.grown left.kept) c.args.by c.args.chooser.now c.look_or_repair-looked.new.chooser c.look_or_repair-looked.result looks.0 looks.1
