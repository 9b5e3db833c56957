-- A round by one thread.
use Rattle.std.specs.Prelude.{◌≡◌, ◌≤◌, ◌<◌, List, [], ◌∷◌, ◌++◌, length, true, false, Some, None, Result, Ok, Err}
use Rattle.pl_entry.specs.declared.entry.Entry.{Entry}
use Rattle.pl_entry.specs.declared.reply.Reply.{Reply}
use Rattle.pl_machine.specs.declared.choice.Choice.{Choice}
use Rattle.pl_machine.specs.declared.stop.Stop.{Stop}
use Rattle.pl_machine.specs.declared.stop.Stop.TheVariants as stop
use Rattle.pl_machine.specs.Step.{is_enabled, after}
use Rattle.pl_machine.specs.Legal.{world_from}
use Rattle.pl_machine.specs.Choices.{exec_choice_of, event_of}
use Rattle.pl_machine.specs.Taking.{Spoils, Answers}
use Rattle.pl_machine.specs.Solo.{Picks, Drawn, IsSoloEvent, solo_from}
use Rattle.pl_machine.specs.Mending.{IsAskedAtMost}
use Rattle.pl_machine.specs.Finished.{inputs_of, input_in}
use Rattle.pl_machine.specs.Sound.{State}

-- what no call changes
pub record SameRun (old new : State) : Type 0 where
  pub model : new.model ≡ old.model
  pub options : new.world.options ≡ old.world.options

-- One more entry, whose event is the one that the world before it and the chooser fix, and no input.
pub record Goes {C : Type 0} (picks : Picks C) (old : State) (c : C) (new : State) (c2 : C) : Type 0 where
  pub entry : Entry
  pub log : new.log ≡ old.log ++ entry ∷ []
  pub world : new.world ≡ after old.world entry.event
  pub unspoiled : new.spoiled ≡ false
  pub solo : IsSoloEvent picks old.world c entry.event c2
  pub input : input_in entry.event ≡ None
  pub same : SameRun old new
  pub done : new.world.done ≡ old.world.done
  pub room : length old.log < old.world.options.entries

-- More entries: none of them an input, each with the event that the world before it and the chooser fix. Then memory was wanting:
-- the machine is spoiled, and but for the plan state its world is the one after them. Behind the last of them the chooser was asked
-- once at most.
pub record Ran {C : Type 0} (picks : Picks C) (drawn : Drawn C) (old : State) (c : C) (new : State) (c2 : C) : Type 0 where
  pub entries : List Entry
  pub chooser : C
  pub ready : old.spoiled ≡ false
  pub log : new.log ≡ old.log ++ entries
  pub solo : solo_from picks old.world c entries chooser
  pub inputs : inputs_of entries ≡ []
  pub same : SameRun old new
  pub world : new.world ≡ record (world_from old.world entries) { state = new.world.state }
  pub spoiled : new.spoiled ≡ true
  pub asked : IsAskedAtMost drawn (world_from old.world entries) chooser c2

-- The same, with the chooser after them, and the machine stands for the world after them.
pub record RanTo {C : Type 0} (picks : Picks C) (old : State) (c : C) (new : State) (c2 : C) : Type 0 where
  pub entries : List Entry
  pub ready : old.spoiled ≡ false
  pub log : new.log ≡ old.log ++ entries
  pub solo : solo_from picks old.world c entries c2
  pub inputs : inputs_of entries ≡ []
  pub same : SameRun old new
  pub world : new.world ≡ world_from old.world entries
  pub unspoiled : new.spoiled ≡ false
  pub done : new.world.done ≡ old.world.done

-- The event that the executive chooses is asked for.
pub record Executes (old : State) (answer : Result Reply Stop) (new : State) : Type 0 where
  pub choice : Choice
  pub chosen : exec_choice_of old.world ≡ Some choice
  pub enabled : is_enabled old.world (event_of choice) ≡ true
  pub answers : Answers old (event_of choice) answer new

abbrev pub Stepped : {C : Type 0} → Picks C → Drawn C → State → C → Result (Unit {0}) Stop → State → C → Type 0
Stepped picks drawn old c (Ok u) new c2 = Goes picks old c new c2
Stepped picks drawn old c (Err stop.NotNow) new c2 = ⊥
Stepped picks drawn old c (Err stop.LogFull) new c2 = (old.spoiled ≡ false) × (old.world.options.entries ≤ length old.log) × (new ≡ old) × (c2 ≡ c)
Stepped picks drawn old c (Err stop.Spoiled) new c2 = (old.spoiled ≡ true) × (new ≡ old) × (c2 ≡ c)
Stepped picks drawn old c (Err stop.Memory) new c2 = (old.spoiled ≡ false) × Spoils old new × IsAskedAtMost drawn old.world c c2

-- What a round does, up to its close or until it stops. Only where memory is wanting the chooser may have been asked for what was not made.
abbrev pub Rounds : {C : Type 0} → Picks C → Drawn C → State → C → Result (Unit {0}) Stop → State → C → Type 0
Rounds picks drawn old c (Ok u) new c2 = RanTo picks old c new c2 × (new.world.closed ≡ true)
Rounds picks drawn old c (Err stop.NotNow) new c2 = ⊥
Rounds picks drawn old c (Err stop.LogFull) new c2 = RanTo picks old c new c2 × (new.world.closed ≡ false) × (old.world.options.entries ≤ length new.log)
Rounds picks drawn old c (Err stop.Spoiled) new c2 = (old.spoiled ≡ true) × (new ≡ old) × (c2 ≡ c)
Rounds picks drawn old c (Err stop.Memory) new c2 = Ran picks drawn old c new c2
