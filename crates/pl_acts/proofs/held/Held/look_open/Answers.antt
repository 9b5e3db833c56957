use Rattle.pl_acts.proofs.held.Held.look_open.Goals as goal

pub returns-in-None : goal.returns-in-None
returns-in-None c = c.lend.ensures c.args.by
