-- What a call of a machine does.
use Rattle.std.specs.Prelude.{◌≡◌, ◌≤◌, ◌<◌, [], ◌∷◌, ◌++◌, length, Bool, true, false, Result, Ok, Err}
use Rattle.pl_entry.specs.declared.event.Event.{Event}
use Rattle.pl_entry.specs.declared.reply.Reply.{Reply}
use Rattle.pl_machine.specs.declared.stop.Stop.{Stop}
use Rattle.pl_machine.specs.declared.stop.Stop.TheVariants as stop
use Rattle.pl_machine.specs.declared.round.Round.{Round}
use Rattle.pl_semantics.specs.declared.plan_state.PlanState.{PlanState}
use Rattle.pl_machine.specs.World.{World}
use Rattle.pl_machine.specs.Step.{Step, is_enabled}
use Rattle.pl_machine.specs.Sound.{State}

-- The event was a step, with this reply, and the log has it as its last entry.
pub record Takes (old : State) (event : Event) (answer : Reply) (new : State) : Type 0 where
  pub step : Step old.world event answer new.world
  pub log : new.log ≡ old.log ++ record { event = event; reply = answer } ∷ []
  pub spoiled : new.spoiled ≡ false
  pub model : new.model ≡ old.model
  pub options : new.world.options ≡ old.world.options

-- The event may be made.
pub record IsOpen (old : State) (event : Event) : Type 0 where
  pub unspoiled : old.spoiled ≡ false
  pub enabled : is_enabled old.world event ≡ true
  pub room : length old.log < old.world.options.entries

-- Memory was wanting: the log and all that it says are as they were, and the machine is spoiled.
pub record Spoils (old new : State) : Type 0 where
  pub spoiled : new.spoiled ≡ true
  pub model : new.model ≡ old.model
  pub log : new.log ≡ old.log
  pub world : new.world ≡ record old.world { state = new.world.state }

-- Spoiled, NotNow and LogFull come in this order, exactly by their causes, and change nothing.
abbrev pub Answers : State → Event → Result Reply Stop → State → Type 0
Answers old event (Ok answer) new = IsOpen old event × Takes old event answer new
Answers old event (Err stop.Spoiled) new = (old.spoiled ≡ true) × (new ≡ old)
Answers old event (Err stop.NotNow) new = (old.spoiled ≡ false) × (is_enabled old.world event ≡ false) × (new ≡ old)
Answers old event (Err stop.LogFull) new = (old.spoiled ≡ false) × (is_enabled old.world event ≡ true) × (old.world.options.entries ≤ length old.log) × (new ≡ old)
Answers old event (Err stop.Memory) new = (old.spoiled ≡ false) × Spoils old new

-- whether an event may be made, and why not
abbrev pub Admits : State → Bool → Result (Unit {0}) Stop → Type 0
Admits s enabled (Ok u) = (s.spoiled ≡ false) × (enabled ≡ true) × (length s.log < s.world.options.entries)
Admits s enabled (Err stop.Spoiled) = s.spoiled ≡ true
Admits s enabled (Err stop.NotNow) = (s.spoiled ≡ false) × (enabled ≡ false)
Admits s enabled (Err stop.LogFull) = (s.spoiled ≡ false) × (enabled ≡ true) × (s.world.options.entries ≤ length s.log)
Admits s enabled (Err stop.Memory) = ⊥

-- ---- the parts of a world that an event changes

abbrev pub with_round : Round → World → World
with_round r w = record w { turn = r.turn; rested = r.rested; held = r.held; closed = r.closed; halted = r.halted }

abbrev pub with_state : PlanState → World → World
with_state s w = record w { state = s }

-- An unspoiled machine stays as it was. A spoiled one, and one where memory is wanting, answers so.
abbrev pub Proposes : {X : Type 0} → State → Result X Stop → State → Type 0
Proposes old (Ok answer) new = (old.spoiled ≡ false) × (new ≡ old)
Proposes old (Err stop.Spoiled) new = (old.spoiled ≡ true) × (new ≡ old)
Proposes old (Err stop.NotNow) new = ⊥
Proposes old (Err stop.LogFull) new = ⊥
Proposes old (Err stop.Memory) new = (old.spoiled ≡ false) × Spoils old new
