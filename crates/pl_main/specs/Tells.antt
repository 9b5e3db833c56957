-- A message and its round.
use Rattle.std.specs.Prelude.{◌≡◌, ℕ, ◌≤◌, List, [], ◌∷◌, ◌++◌, length, Bool, true, false, Option, Some, None, Result, Ok, Err, ⊤}
use Rattle.pl_entry.specs.declared.event.Event.TheVariants as event
use Rattle.pl_entry.specs.declared.entry.Entry.{Entry}
use Rattle.pl_machine.specs.declared.stop.Stop.{Stop}
use Rattle.pl_machine.specs.declared.stop.Stop.TheVariants as stop
use Rattle.pl_input.specs.Words.{is_line_of, end_word}
use Rattle.pl_machine.specs.Step.{after}
use Rattle.pl_machine.specs.Legal.{world_from}
use Rattle.pl_main.specs.Solo.{Rule, follows}
use Rattle.pl_machine.specs.Finished.{inputs_of}
use Rattle.pl_machine.specs.Sound.{State}
use Rattle.pl_driver.specs.Rounds.{SameRun}

-- whether an input ends the run
abbrev pub is_last : Option (List ℕ) → Bool
is_last None = true
is_last (Some line) = is_line_of end_word line

-- a machine that waits for a message
pub record IsReady (s : State) : Type 0 where
  pub unspoiled : s.spoiled ≡ false
  pub closed : s.world.closed ≡ true
  pub going : s.world.done ≡ false

-- The input was logged. Its round is open, unless it ends the run.
pub record LogsInput (old : State) (input : Option (List ℕ)) (new : State) : Type 0 where
  pub entry : Entry
  pub is_input : entry.event ≡ event.Input input
  pub log : new.log ≡ old.log ++ entry ∷ []
  pub world : new.world ≡ after old.world (event.Input input)
  pub unspoiled : new.spoiled ≡ false
  pub done : new.world.done ≡ is_last input
  pub closed : new.world.closed ≡ is_last input
  pub same : SameRun old new

abbrev pub LogsInputOrStops : State → Option (List ℕ) → Result (Unit {0}) Stop → State → Type 0
LogsInputOrStops old input (Ok u) new = LogsInput old input new
LogsInputOrStops old input (Err stop.NotNow) new = ⊥
LogsInputOrStops old input (Err stop.LogFull) new = (old.world.options.entries ≤ length old.log) × (new ≡ old)
LogsInputOrStops old input (Err stop.Spoiled) new = ⊥
LogsInputOrStops old input (Err stop.Memory) new = ⊤

-- The entries of a message and its round.
pub record AnswersMessage (R : Rule) (old : State) (input : Option (List ℕ)) (new : State) : Type 0 where
  pub entries : List Entry
  pub log : new.log ≡ old.log ++ entries
  pub inputs : inputs_of entries ≡ input ∷ []
  pub solo : follows R old.world entries
  pub world : new.world ≡ world_from old.world entries
  pub unspoiled : new.spoiled ≡ false
  pub closed : new.world.closed ≡ true
  pub done : new.world.done ≡ is_last input
  pub same : SameRun old new

-- The log got full within the round of the message.
pub record AnswersMessageInPart (R : Rule) (old : State) (input : Option (List ℕ)) (new : State) : Type 0 where
  pub entries : List Entry
  pub log : new.log ≡ old.log ++ entries
  pub inputs : inputs_of entries ≡ input ∷ []
  pub solo : follows R old.world entries
  pub world : new.world ≡ world_from old.world entries
  pub unspoiled : new.spoiled ≡ false
  pub open_round : new.world.closed ≡ false
  pub going : new.world.done ≡ false
  pub full : old.world.options.entries ≤ length new.log
  pub same : SameRun old new

-- The log was full when the message came, or it got full within its round.
pub data FillsUp (R : Rule) (old : State) (input : Option (List ℕ)) (new : State) : Type 0 where
  at_once : old.world.options.entries ≤ length old.log → new ≡ old → FillsUp R old input new
  within : AnswersMessageInPart R old input new → FillsUp R old input new

abbrev pub AnswersMessageOrStops : Rule → State → Option (List ℕ) → Result (Unit {0}) Stop → State → Type 0
AnswersMessageOrStops R old input (Ok u) new = AnswersMessage R old input new
AnswersMessageOrStops R old input (Err stop.NotNow) new = ⊥
AnswersMessageOrStops R old input (Err stop.LogFull) new = FillsUp R old input new
AnswersMessageOrStops R old input (Err stop.Spoiled) new = ⊥
AnswersMessageOrStops R old input (Err stop.Memory) new = ⊤
