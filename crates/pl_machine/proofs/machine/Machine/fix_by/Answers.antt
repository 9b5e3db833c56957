use Rattle.std.proofs.Common.{◌∙◌}
use Rattle.pl_machine.proofs.Handed.{can_repair}
use Rattle.pl_machine.proofs.machine.Machine.fix_by.Goals as goal

pub repair-requires-clause-can : goal.repair-requires-clause-can
repair-requires-clause-can c = can_repair c.args.self.now.world.state c.args.conflict c.args.repair (c.requires.reply ∙ c.in-Done.is) c.requires.next_id
