use Rattle.pl_state.proofs.sets.state_of.Goals as goal

pub returns : goal.returns
returns c = c.state_left.ensures c.args.at c.passed_count-count.ensures.front
