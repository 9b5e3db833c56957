use Rattle.pl_acts.proofs.held.Held.settle_open.Goals as goal

pub returns-in-Some : goal.returns-in-Some
returns-in-Some c = rw c.in-Some.is (c.fix.ensures c.args.chooser.now)
