use Rattle.pl_bounds.proofs.bounding.gone_anew.Goals as goal

pub returns : goal.returns
returns c =
    let s = c.args.board.now.state in
    let change = c.args.change.now in
    record {
      tally = c.looked_at-walk.ensures s s.moment s.model.horizon change.way change.steps.now c.requires.right c.added_at-added.ensures c.looked_between-before.ensures;
      added = c.added_at-added.ensures;
    }
