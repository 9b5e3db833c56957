-- At a close all that is due was sent.
use Rattle.std.proofs.Common.{◌≡◌, true, not, nat_le, Ok, Err, sym, subst}
use Rattle.std.specs.Prelude.{Result, OnOk}
use lib.Pointwise.{bytes_decides}
use Rattle.pl_lists.proofs.Tests.{and_third}
use Rattle.pl_entry.specs.declared.event.Event.TheVariants as event
use Rattle.pl_entry.specs.declared.reply.Reply.{Reply}
use Rattle.pl_machine.specs.declared.stop.Stop.{Stop}
use Rattle.pl_machine.specs.World.{World, due_in}
use Rattle.pl_machine.specs.Step.{all_sent, best_in, behind_of, is_enabled}
use Rattle.pl_machine.specs.Sound.{State}
use Rattle.pl_machine.specs.Taking.{Answers}

all_sent_at : (w : World) → is_enabled w event.Close ≡ true → w.dispatched ≡ due_in w.state
all_sent_at w enabled = (bytes_decides w.dispatched (due_in w.state)).0 (and_third (not w.closed) w.rested (all_sent w) (nat_le (best_in w) (behind_of w.state)) enabled)

pub sent_at_close : (old : State) (r : Result Reply Stop) (new : State) → Answers old event.Close r new → OnOk r (new.world.dispatched ≡ due_in new.world.state)
sent_at_close old (Ok answer) new a = subst (λ (w : World). w.dispatched ≡ due_in w.state) (sym a.1.step.leaves) (all_sent_at old.world a.0.enabled)
sent_at_close old (Err e) new a = tt
