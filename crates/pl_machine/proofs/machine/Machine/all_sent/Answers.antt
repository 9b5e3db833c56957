use Rattle.std.proofs.Common.{ℕ, nat_le, refl, ◌∙◌, ap}
use Rattle.pl_machine.proofs.Sends.{sent_all, sent_count}
use Rattle.pl_machine.proofs.machine.Machine.all_sent.Goals as goal

pub returns-clause-sent : goal.returns-clause-sent
returns-clause-sent c = ap (λ (n : ℕ). nat_le n c.self.inside.sent) (c.len.ensures ∙ c.self.inside.schedule.due.ok.0) ∙ sent_all c.args.self.now c.self.view_is c.self.invariant c.requires refl

pub returns-clause-due : goal.returns-clause-due
returns-clause-due c = ap (λ (n : ℕ). nat_le n c.self.inside.sent) (c.len.ensures ∙ c.self.inside.schedule.due.ok.0) ∙ sent_count c.args.self.now c.self.view_is c.self.invariant c.requires refl
