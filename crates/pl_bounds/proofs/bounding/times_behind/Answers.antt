use Rattle.pl_bounds.specs.Steps.{is_past_by}
use Rattle.pl_bounds.proofs.Tallied.{times_few}
use Rattle.pl_bounds.proofs.bounding.times_behind.Goals as goal

pub returns-then-not-may_be_past_behind : goal.returns-then-not-may_be_past_behind
returns-then-not-may_be_past_behind c =
    let s = c.args.board.now.state in
    let change = c.args.change.now in
    times_few (is_past_by s c.args.outside.now change.way change.steps.now) s.moment s.model.horizon c.args.walk.tally c.requires.walk.tally

pub returns-else-not-may_be_past_behind : goal.returns-else-not-may_be_past_behind
returns-else-not-may_be_past_behind c =
    let s = c.args.board.now.state in
    let change = c.args.change.now in
    times_few (is_past_by s c.args.outside.now change.way change.steps.now) s.moment s.model.horizon c.looked_before.result c.looked_before.ensures
