use Rattle.pl_acts.proofs.Settled.{repair_stops}
use Rattle.pl_acts.proofs.held.Held.repair.Goals as goal

pub returns-in-Err : goal.returns-in-Err
returns-in-Err c =
    repair_stops c.args.by c.args.self.now c.repair_once.new.self c.args.chooser.now c.repair_once.new.chooser c.args.proposal c.in-Err.stop c.requires.unspoiled c.requires.going c.requires.running c.requires.repairing c.requires.free c.in-Err.ensures
