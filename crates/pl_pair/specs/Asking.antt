-- The next message goes to the plan.
use Rattle.std.specs.Prelude.{◌≡◌, ℕ, List, Option, Some, None, Result, Ok, Err, ◌⊎◌}
use Rattle.pl_io.specs.declared.errors.LineFault.{LineFault}
use Rattle.pl_io.specs.Reader.{NumberedLine}
use Rattle.pl_machine.specs.declared.stop.Stop.TheVariants as stop
use Rattle.pl_input.specs.Reads.{OneLine}
use Rattle.pl_input.specs.Waits.{MessageGives, GetsFault, line_in}
use Rattle.pl_input.specs.Places.{Place}
use Rattle.pl_entry.specs.declared.entry.Entry.{Entry}
use Rattle.pl_marks.specs.declared.author.Author.TheVariants.{Feeder}
use Rattle.pl_acts.specs.declared.noted.Noted.{Noted}
use Rattle.pl_acts.specs.Items.{InWorld}
use Rattle.pl_acts.specs.Roles.{IsInputOf}
use Rattle.pl_locked.specs.Plans.{PlanPass}
use Rattle.pl_locked.specs.Turns.{Makes, MakesNothing, Feeds}
use Rattle.pl_pair.specs.declared.cut.Cut.{Cut}
use Rattle.pl_pair.specs.declared.cut.Cut.TheVariants as cut
use Rattle.pl_pair.specs.Cuts.{cut_by}

-- A reader that failed before answers the same fault, and stays as it was.
pub data Faults (old : Place) (f : LineFault) (new : Place) : Type 0 where
  now_failed : old.reader.failed ≡ None → GetsFault old.reader old.ahead f new.reader new.ahead → Faults old f new
  had_failed : old.reader.failed ≡ Some f → new.reader ≡ old.reader → Faults old f new

-- the next line, or the end of the input, or the fault that keeps it back
abbrev pub FirstLine : Place → Result (Option NumberedLine) LineFault → Place → Type 0
FirstLine old (Ok line) new = (old.reader.failed ≡ None) × OneLine old.reader old.ahead (Ok line) new.reader new.ahead
FirstLine old (Err f) new = Faults old f new

-- the next message, or the end of the input, or the fault that keeps it back
abbrev pub Asks : Place → Result (Option NumberedLine) LineFault → Place → Type 0
Asks old (Ok message) new = (old.reader.failed ≡ None) × MessageGives old.reader old.ahead (Ok message) new.reader new.ahead
Asks old (Err f) new = Faults old f new

-- the entry of this line, or of the end of the input
abbrev pub IsFed : Option (List ℕ) → List Noted → Entry → Type 0
IsFed line before e = InWorld before (λ w. IsInputOf line w e)

-- what came of handing a message to the plan
abbrev pub HandsIn : Option (List ℕ) → PlanPass → Result (Unit {0}) Cut → PlanPass → Type 0
HandsIn line old (Ok u) new = (number : ℕ) × Makes (IsFed line) Feeder old new number
HandsIn line old (Err cut.Full) new = Feeds line old (Err stop.LogFull) new
HandsIn line old (Err cut.Stopped) new = Feeds line old (Err stop.NotNow) new
HandsIn line old (Err cut.Memory) new = MakesNothing old new
HandsIn line old (Err cut.Read) new = ⊥
HandsIn line old (Err cut.Write) new = ⊥
HandsIn line old (Err cut.Limit) new = ⊥

-- A message was read, and handed to the plan.
pub record HandsOn (start : Place) (old : PlanPass) (r : Result (Unit {0}) Cut) (place : Place) (new : PlanPass) : Type 0 where
  pub message : Option NumberedLine
  pub asks : Asks start (Ok message) place
  pub hands : HandsIn (line_in message) old r new

-- No message was read.
pub record HandsNone (start : Place) (old : PlanPass) (c : Cut) (place : Place) (new : PlanPass) : Type 0 where
  pub fault : LineFault
  pub asks : Faults start fault place
  pub cut : c ≡ cut_by fault
  pub same : new ≡ old

-- what came of it, with the number of the entry that comes next
abbrev pub PassesTo : ℕ → Place → PlanPass → Result (Option ℕ) Cut → Place → PlanPass → Type 0
PassesTo next start old (Ok (Some n)) place new = (n ≡ next) × HandsOn start old (Ok tt) place new
PassesTo next start old (Ok None) place new = ⊥
PassesTo next start old (Err c) place new = HandsOn start old (Err c) place new ⊎ HandsNone start old c place new

-- the next message was read and handed to the plan, or it was not read
abbrev pub Passes : Place → PlanPass → Result (Unit {0}) Cut → Place → PlanPass → Type 0
Passes start old (Ok u) place new = HandsOn start old (Ok u) place new
Passes start old (Err c) place new = HandsOn start old (Err c) place new ⊎ HandsNone start old c place new
