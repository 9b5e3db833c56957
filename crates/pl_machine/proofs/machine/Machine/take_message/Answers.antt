use Rattle.std.proofs.Common.{subst}
use Rattle.pl_semantics.specs.Whole.{IsWhole}
use Rattle.pl_machine.specs.Sound.{State}
use Rattle.pl_machine.proofs.machine.Machine.take_message.Goals as goal

pub accept-requires-clause-whole : goal.accept-requires-clause-whole
accept-requires-clause-whole c = subst (λ (t : State). IsWhole t.world.state) c.self.view_is c.message_reply.ensures.whole
