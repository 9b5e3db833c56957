use Rattle.pl_bounds.proofs.bounding.gone_to.Goals as goal

pub returns-then-is_known_at : goal.returns-then-is_known_at
returns-then-is_known_at c =
    let change = c.args.change.now in
    c.gone_on.ensures c.args.board.now.state change.way change.steps.now c.requires.right c.requires.walk
