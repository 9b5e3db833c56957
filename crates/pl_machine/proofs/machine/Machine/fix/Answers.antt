use Rattle.pl_machine.proofs.Handed.{in_range, committed_stays}
use Rattle.pl_machine.proofs.machine.Machine.fix.Goals as goal

pub fix_by-requires-clause-repair : goal.fix_by-requires-clause-repair
fix_by-requires-clause-repair c = rw c.known_move.ensures.same (in_range c.args.self.now.model c.args.repair.now c.requires c.known_move.ensures.fits)

pub returns-in-Ok-clause-committed : goal.returns-in-Ok-clause-committed
returns-in-Ok-clause-committed c = committed_stays c.args.self.now c.known_conflict.result c.known_move.result _ _ c.in-Ok.ensures.whole c.fix_by.ensures
