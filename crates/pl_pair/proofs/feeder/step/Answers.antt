use Rattle.pl_input.specs.Places.{place_of}
use Rattle.pl_pair.proofs.Feeding.{step_behind}
use Rattle.pl_pair.proofs.feeder.step.Goals as goal

pub returns-in-Waits-clause-steps : goal.returns-in-Waits-clause-steps
returns-in-Waits-clause-steps g c =
    let round = c.write_round.ensures in
    let start = place_of c.args.lines.now (g.S.Source.left c.args.src.now) in
    let place = place_of c.feed_behind.new.lines (g.S.Source.left c.feed_behind.new.src) in
    step_behind c.args.plan.now c.args.model.now c.args.from c.in-Waits.next start place c.args.pass.now c.write_round.new.pass c.feed_behind.new.pass (g.O.Sink.held c.args.out.now) (g.O.Sink.held c.write_round.new.out) c.feed_behind.result round.own round.looks (rw c.in-Waits.is at c.in_ok-write_round.ensures.ends)
    c.feed_behind.ensures.passes c.feed_behind.ensures.follows
