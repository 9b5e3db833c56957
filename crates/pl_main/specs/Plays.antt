-- The messages of a run and what is written for them.
use Rattle.std.specs.Prelude.{◌≡◌, ℕ, ◌<◌, List, [], ◌∷◌, ◌++◌, length, drop, Bool, true, false, Option, Some, None, IfSome, ◌⊎◌, Result, Ok, Err, ⊤}
use Rattle.pl_io.specs.Reader.{NumberedLine}
use Rattle.pl_io.specs.Sparing.{read_size}
use Rattle.pl_io.specs.Writes.{AppendsFront}
use Rattle.pl_io.specs.declared.errors.LineFault.{LineFault}
use Rattle.pl_entry.specs.declared.entry.Entry.{Entry}
use Rattle.pl_input.specs.Words.{messages_of}
use Rattle.pl_machine.specs.Legal.{Legal, world_from}
use Rattle.pl_main.specs.Solo.{Rule, follows}
use Rattle.pl_machine.specs.Finished.{inputs_of}
use Rattle.pl_machine.specs.Sound.{State}
use Rattle.pl_driver.specs.Rounds.{SameRun}
use Rattle.pl_journal.specs.Rendering.Lines.{text_from}
use Rattle.pl_input.specs.declared.halt.Halt.{Halt}
use Rattle.pl_input.specs.declared.halt.Halt.TheVariants as halt
use Rattle.pl_input.specs.Reads.{GivesLinesKnown, ReadsLines}
use Rattle.pl_main.specs.Tells.{IsReady, AnswersMessage, AnswersMessageInPart, FillsUp}
use Rattle.pl_input.specs.Stops.{HaltFor, ReadLeaves, LimitLeaves, StopsBy}
use Rattle.pl_input.specs.Waits.{MessageGives, GetsFault, line_in}
use Rattle.pl_input.specs.Places.{Place}
use Rattle.pl_journal.specs.Written.{Adds}

-- Lines were taken, their messages are the inputs of these entries, and the entries' lines were written.
pub record AnswersMessages (R : Rule) (old : State) (start : Place) (held : Option (List ℕ)) (new : State) (place : Place) (now : Option (List ℕ)) : Type 0 where
  pub lines : List (List ℕ)
  pub entries : List Entry
  pub took : ReadsLines start.reader start.ahead lines place.reader place.ahead
  pub log : new.log ≡ old.log ++ entries
  pub solo : follows R old.world entries
  pub world : new.world ≡ world_from old.world entries
  pub messages : messages_of lines ≡ inputs_of entries ++ None ∷ []
  pub ready : IsReady new
  pub same : SameRun old new
  pub written : Adds held now (text_from old.model (length old.log) entries)

-- The messages of these lines end with the input, or with the last of the lines, whatever stands behind it.
pub data EndsWith (rest : List ℕ) (lines : List (List ℕ)) (inputs : List (Option (List ℕ))) : Type 0 where
  by_end : (front : List (Option (List ℕ))) → inputs ≡ front ++ None ∷ [] → rest ≡ []
      → messages_of lines ≡ inputs → EndsWith rest lines inputs
  by_line : (front : List (Option (List ℕ))) (line : List ℕ) (before : List (List ℕ))
      → inputs ≡ front ++ Some line ∷ [] → lines ≡ before ++ line ∷ [] → ((more : List (List ℕ)) → messages_of (lines ++ more) ≡ inputs) → EndsWith rest lines inputs

-- where the bytes at the start are known, the inputs are all messages up to their end
abbrev pub EndsAll : Option (List ℕ) → Option (List ℕ) → List (List ℕ) → List (Option (List ℕ)) → Type 0
EndsAll None after lines inputs = ⊤
EndsAll (Some bytes) after lines inputs = IfSome after (λ rest. EndsWith rest lines inputs)

-- All messages were taken.
pub record AnswersAll (R : Rule) (old : State) (start : Place) (held : Option (List ℕ)) (new : State) (place : Place) (now : Option (List ℕ)) : Type 0 where
  pub lines : List (List ℕ)
  pub entries : List Entry
  pub gave : GivesLinesKnown start.reader.limit start.reader.room start.ahead lines place.reader.room place.ahead
  pub log : new.log ≡ old.log ++ entries
  pub solo : follows R old.world entries
  pub world : new.world ≡ world_from old.world entries
  pub messages : EndsAll start.ahead place.ahead lines (inputs_of entries)
  pub few : length start.reader.held < read_size → length place.reader.held < read_size
  pub done : new.world.done ≡ true
  pub closed : new.world.closed ≡ true
  pub unspoiled : new.spoiled ≡ false
  pub same : SameRun old new
  pub written : Adds held now (text_from old.model (length old.log) entries)

-- The next line is not given, while the machine waits for a message.
pub record AnswersUntilHalt (R : Rule) (e : Halt) (old : State) (start : Place) (held : Option (List ℕ)) (new : State) (place : Place) (now : Option (List ℕ)) : Type 0 where
  pub lines : List (List ℕ)
  pub entries : List Entry
  pub left : ℕ
  pub rest : Option (List ℕ)
  pub gave : GivesLinesKnown start.reader.limit start.reader.room start.ahead lines left rest
  pub why : StopsBy e start.reader.limit left rest
  pub leaves : e ≡ halt.Read → ReadLeaves start.reader.limit left rest place.reader.held place.ahead
  pub past : e ≡ halt.Limit → length start.reader.held < read_size → LimitLeaves start.reader.limit left rest place.reader.held place.ahead
  pub log : new.log ≡ old.log ++ entries
  pub solo : follows R old.world entries
  pub world : new.world ≡ world_from old.world entries
  pub messages : messages_of lines ≡ inputs_of entries ++ None ∷ []
  pub ready : IsReady new
  pub same : SameRun old new
  pub written : Adds held now (text_from old.model (length old.log) entries)

-- The message was answered.
pub record Answered (R : Rule) (old : State) (input : Option (List ℕ)) (held : Option (List ℕ)) (new : State) (now : Option (List ℕ)) : Type 0 where
  pub told : AnswersMessage R old input new
  pub written : Adds held now (text_from old.model (length old.log) (drop (length old.log) new.log))

-- The log is full.
pub record Filled (R : Rule) (old : State) (input : Option (List ℕ)) (held : Option (List ℕ)) (new : State) (now : Option (List ℕ)) : Type 0 where
  pub fills : FillsUp R old input new
  pub written : Adds held now (text_from old.model (length old.log) (drop (length old.log) new.log))

-- The message was logged, and a front of the lines of its entries was written, and not all of them.
pub record AnsweredInPart (R : Rule) (old : State) (input : Option (List ℕ)) (held : Option (List ℕ)) (new : State) (now : Option (List ℕ)) : Type 0 where
  pub told : AnswersMessage R old input new ⊎ AnswersMessageInPart R old input new
  pub written : AppendsFront held now (text_from old.model (length old.log) (drop (length old.log) new.log))

-- Memory was wanting: for the message or its round, and then nothing of it was written, or for a line of its entries.
pub data Unanswered (R : Rule) (old : State) (input : Option (List ℕ)) (held : Option (List ℕ)) (new : State) (now : Option (List ℕ)) : Type 0 where
  untold : Legal old.model old.log → now ≡ held → Unanswered R old input held new now
  told_in_part : AnsweredInPart R old input held new now → Unanswered R old input held new now

abbrev pub Answering : Rule → State → Option (List ℕ) → Option (List ℕ) → Result Bool Halt → State → Option (List ℕ) → Type 0
Answering R old input held (Ok done) new now = Answered R old input held new now × (done ≡ new.world.done)
Answering R old input held (Err halt.Full) new now = Filled R old input held new now
Answering R old input held (Err halt.Limit) new now = ⊥
Answering R old input held (Err halt.Read) new now = ⊥
Answering R old input held (Err halt.Write) new now = AnsweredInPart R old input held new now
Answering R old input held (Err halt.Memory) new now = Unanswered R old input held new now

-- A message was answered, and its entries' lines were written.
pub record AnswersNext (R : Rule) (old : State) (start : Place) (held : Option (List ℕ)) (new : State) (place : Place) (now : Option (List ℕ)) : Type 0 where
  pub message : Option NumberedLine
  pub gets : MessageGives start.reader start.ahead (Ok message) place.reader place.ahead
  pub told : AnswersMessage R old (line_in message) new
  pub written : Adds held now (text_from old.model (length old.log) (drop (length old.log) new.log))

-- The log is full while an entry is due.
pub record AnswersNextUntilFull (R : Rule) (old : State) (start : Place) (held : Option (List ℕ)) (new : State) (place : Place) (now : Option (List ℕ)) : Type 0 where
  pub message : Option NumberedLine
  pub gets : MessageGives start.reader start.ahead (Ok message) place.reader place.ahead
  pub fills : FillsUp R old (line_in message) new
  pub written : Adds held now (text_from old.model (length old.log) (drop (length old.log) new.log))

-- The next line is not given.
pub record HaltsBeforeNext (e : Halt) (old : State) (start : Place) (held : Option (List ℕ)) (new : State) (place : Place) (now : Option (List ℕ)) : Type 0 where
  pub reason : LineFault
  pub fault : GetsFault start.reader start.ahead reason place.reader place.ahead
  pub halts : HaltFor reason e
  pub same : new ≡ old
  pub written : now ≡ held

-- A front of a message's lines was written.
pub record AnswersNextInPart (R : Rule) (old : State) (start : Place) (held : Option (List ℕ)) (new : State) (place : Place) (now : Option (List ℕ)) : Type 0 where
  pub message : Option NumberedLine
  pub gets : MessageGives start.reader start.ahead (Ok message) place.reader place.ahead
  pub answered : AnsweredInPart R old (line_in message) held new now

-- Memory was wanting: for a line, for a message or its round, or for a line of the message's entries.
pub data LacksMemoryForNext (R : Rule) (old : State) (start : Place) (held : Option (List ℕ)) (new : State) (place : Place) (now : Option (List ℕ)) : Type 0 where
  unread : new ≡ old → now ≡ held → LacksMemoryForNext R old start held new place now
  unheard : Legal old.model old.log → now ≡ held → LacksMemoryForNext R old start held new place now
  unwritten : AnswersNextInPart R old start held new place now → LacksMemoryForNext R old start held new place now

abbrev pub AnswersNextOrStops : Rule → State → Place → Option (List ℕ) → Result Bool Halt → State → Place → Option (List ℕ) → Type 0
AnswersNextOrStops R old start held (Ok done) new place now = AnswersNext R old start held new place now × (done ≡ new.world.done)
AnswersNextOrStops R old start held (Err halt.Limit) new place now = HaltsBeforeNext halt.Limit old start held new place now
AnswersNextOrStops R old start held (Err halt.Full) new place now = AnswersNextUntilFull R old start held new place now
AnswersNextOrStops R old start held (Err halt.Read) new place now = HaltsBeforeNext halt.Read old start held new place now
AnswersNextOrStops R old start held (Err halt.Write) new place now = AnswersNextInPart R old start held new place now
AnswersNextOrStops R old start held (Err halt.Memory) new place now = LacksMemoryForNext R old start held new place now

-- Messages were answered, and the next came to this end.
pub record AnswersUntil (R : Rule) (Last : State → Place → Option (List ℕ) → State → Place → Option (List ℕ) → Type 0) (old : State) (start : Place)
    (held : Option (List ℕ)) (new : State) (place : Place) (now : Option (List ℕ)) : Type 0 where
  pub waiting : State
  pub middle : Place
  pub written : Option (List ℕ)
  pub plays : AnswersMessages R old start held waiting middle written
  pub step : Last waiting middle written new place now

abbrev pub AnswersAllOrStops : Rule → State → Place → Option (List ℕ) → Result (Unit {0}) Halt → State → Place → Option (List ℕ) → Type 0
AnswersAllOrStops R old start held (Ok u) new place now = AnswersAll R old start held new place now
AnswersAllOrStops R old start held (Err halt.Limit) new place now = AnswersUntilHalt R halt.Limit old start held new place now
AnswersAllOrStops R old start held (Err halt.Full) new place now = AnswersUntil R (AnswersNextUntilFull R) old start held new place now
AnswersAllOrStops R old start held (Err halt.Read) new place now = AnswersUntilHalt R halt.Read old start held new place now
AnswersAllOrStops R old start held (Err halt.Write) new place now = AnswersUntil R (AnswersNextInPart R) old start held new place now
AnswersAllOrStops R old start held (Err halt.Memory) new place now = AnswersUntil R (LacksMemoryForNext R) old start held new place now
