use Rattle.std.proofs.Common.{nat_lt, refl, ◌∙◌, ap}
use Rattle.pl_machine.proofs.Sends.{left_count}
use Rattle.pl_machine.proofs.machine.Machine.is_left.Goals as goal

pub returns : goal.returns
returns c = ap (nat_lt c.self.inside.sent) (c.len.ensures ∙ c.self.inside.schedule.due.ok.0) ∙ left_count c.args.self.now c.self.view_is c.self.invariant c.requires refl
