-- Where an event is admitted, and where it is answered by a stop.
use Rattle.std.proofs.Common.{◌≡◌, Bool, false, Ok, Err, sym, ◌∙◌, subst, refl}
use Rattle.pl_entry.specs.declared.event.Event.{Event}
use Rattle.pl_machine.specs.declared.stop.Stop.{Stop}
use Rattle.pl_machine.specs.declared.stop.Stop.TheVariants as stop
use Rattle.pl_machine.specs.Step.{is_enabled}
use Rattle.pl_machine.specs.Sound.{State}
use Rattle.pl_machine.specs.Taking.{IsOpen, Spoils, Answers, Admits}

pub admitted : (s : State) (happened : Event) (enabled : Bool) → enabled ≡ is_enabled s.world happened → Admits s enabled (Ok tt) → IsOpen s happened
admitted s happened enabled is may = record { unspoiled = may.0; enabled = sym is ∙ may.1; room = may.2 }

pub stopped : (s : State) (happened : Event) (enabled : Bool) (e : Stop) → enabled ≡ is_enabled s.world happened → Admits s enabled (Err e) → Answers s happened (Err e) s
stopped s happened enabled stop.Spoiled is why = (why, refl)
stopped s happened enabled stop.NotNow is why = (why.0, sym is ∙ why.1, refl)
stopped s happened enabled stop.LogFull is why = (why.0, sym is ∙ why.1, why.2, refl)
stopped s happened enabled stop.Memory is why = absurd why

-- memory was wanting
pub spoils : (old new : State) (happened : Event) (e : Stop) → e ≡ stop.Memory → old.spoiled ≡ false → Spoils old new → Answers old happened (Err e) new
spoils old new happened e is unspoiled left = subst (λ (x : Stop). Answers old happened (Err x) new) (sym is) (unspoiled, left)
