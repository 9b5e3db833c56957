use Rattle.pl_marks.specs.declared.author.Author.TheVariants.{Feeder}
use Rattle.pl_acts.proofs.Growing.{grows_fed}
use Rattle.pl_locked.proofs.Turning.{turn_of, took_turn, fed}
use Rattle.pl_locked.proofs.plan.SharedPlan.feed.Goals as goal

pub leave-requires-clause-grows : goal.leave-requires-clause-grows
leave-requires-clause-grows g c = let turn = c.enter-held.ensures in grows_fed Feeder _ c.enter-held.new.pass.seat.me.0.seen c.enter-held.result c.feed-fed.new.self c.feed-fed.result turn.history turn.sound c.feed-fed.ensures

pub returns-clause-takes : goal.returns-clause-takes
returns-clause-takes g c =
    let turn = c.enter-held.ensures in
    let left = c.leave.ensures in
    took_turn c.args.pass.now c.enter-held.new.pass c.leave.new.pass c.enter-held.result c.feed-fed.new.self (turn_of c.args.pass.now c.enter-held.new.pass c.leave.new.pass c.enter-held.result c.feed-fed.new.self turn.takes turn.mine turn.history turn.sound
    (grows_fed Feeder _ c.enter-held.new.pass.seat.me.0.seen c.enter-held.result c.feed-fed.new.self c.feed-fed.result turn.history turn.sound c.feed-fed.ensures) left.seen left.sound left.same left.grown left.kept)

pub returns-clause-feeds : goal.returns-clause-feeds
returns-clause-feeds g c =
    let turn = c.enter-held.ensures in
    let left = c.leave.ensures in
    fed c.args.pass.now c.enter-held.new.pass c.leave.new.pass c.enter-held.result c.feed-fed.new.self (turn_of c.args.pass.now c.enter-held.new.pass c.leave.new.pass c.enter-held.result c.feed-fed.new.self turn.takes turn.mine turn.history turn.sound
    (grows_fed Feeder _ c.enter-held.new.pass.seat.me.0.seen c.enter-held.result c.feed-fed.new.self c.feed-fed.result turn.history turn.sound c.feed-fed.ensures) left.seen left.sound left.same left.grown left.kept) _ c.feed-fed.result c.feed-fed.ensures
