use Rattle.pl_locked.proofs.Turning.{enters}
use Rattle.pl_locked.proofs.plan.SharedPlan.enter.Goals as goal

pub returns-clause-takes : goal.returns-clause-takes
returns-clause-takes g c =
    let in_turn = c.enter-held.ensures in
    enters c.args.pass.now c.enter-held.new.pass c.requires.seen in_turn.longer in_turn.counted in_turn.kept.1 in_turn.kept.2
