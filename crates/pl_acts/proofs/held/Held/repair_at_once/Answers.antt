use Rattle.pl_acts.proofs.AtOnce.{stuck_at_once}
use Rattle.pl_acts.proofs.held.Held.repair_at_once.Goals as goal

pub returns-in-Ok-Rested : goal.returns-in-Ok-Rested
returns-in-Ok-Rested c =
    stuck_at_once c.args.by c.args.self.now c.repair_once.new.self c.draw.new.self c.args.chooser.now c.repair_once.new.chooser c.draw.new.chooser c.in-Ok-Rested.field-0-0 c.last_number-in-Ok-Rested.result c.requires.may
    (rw c.in-Ok-Rested.field-0-is at c.in-Ok-Rested.ensures) c.draw.ensures.keeps c.draw.ensures.drawn c.last_number-in-Ok-Rested.ensures
