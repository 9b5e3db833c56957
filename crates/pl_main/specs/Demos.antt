-- What is promised of `demo N`.
use Rattle.std.specs.Prelude.{◌≡◌, List, [], ◌∷◌, ◌++◌, ℕ, length, Option, None, Result, Ok, Err, codes, decimal, ⊤}
use Rattle.pl_io.specs.Writes.{AppendsFront}
use Rattle.pl_model.specs.declared.whole.Model.{Model}
use Rattle.pl_entry.specs.declared.entry.Entry.{Entry}
use Rattle.pl_semantics.specs.Conflicts.{conflicts_of}
use Rattle.pl_machine.specs.World.{World}
use Rattle.pl_machine.specs.Legal.{Legal, world_of}
use Rattle.pl_machine.specs.Sound.{State}
use Rattle.pl_check.specs.Accepting.{IsModelText}
use Rattle.pl_report.specs.Demonstration.{demo_text}
use Rattle.std.specs.declared.vec.Vec.{Vec}
use Rattle.std.specs.declared.alloc.Global.{Global}
use Rattle.pl_input.specs.declared.halt.Halt.{Halt}
use Rattle.pl_input.specs.declared.halt.Halt.TheVariants as halt
use Rattle.pl_main.specs.declared.outcome.Outcome.{Outcome}
use Rattle.pl_main.specs.declared.outcome.Outcome.TheVariants as outcome
use Rattle.pl_input.specs.Heads.{Keeps}
use Rattle.pl_input.specs.Places.{Place}
use Rattle.pl_main.specs.Solo.{IsSoloEvent}
use Rattle.pl_main.specs.Plays.{AnswersAll}
use Rattle.pl_main.specs.Runs.{fresh_state, ModelRun, IsKeptModel}
use Rattle.pl_main.specs.Endings.{IsDone, IsFull}
use Rattle.pl_main.specs.RunKinds.{solo_run}
use Rattle.pl_journal.specs.Written.{Adds}

-- the repair turns of a round
abbrev pub demo_turns : ℕ
demo_turns = 50

-- demo GOALS entries E activities A dispatched D conflicts K
abbrev pub summary_line : ℕ → List Entry → World → List ℕ
summary_line goals log w =
    codes "demo " ++ (decimal goals
    ++ (codes " entries " ++ (decimal (length log)
    ++ (codes " activities " ++ (decimal (length w.state.plan.activities)
    ++ (codes " dispatched " ++ (decimal (length w.dispatched)
    ++ (codes " conflicts " ++ (decimal (length (conflicts_of w.state)) ++ 10 ∷ [])))))))))

-- The demonstration's input was run to its end, as any input is, and what was written is the summary of its log and of
-- the world after it. Nothing of the journal was written.
pub record IsShown (goals : ℕ) (held now : Option (List ℕ)) : Type 0 where
  pub left : Option (List ℕ)
  pub done : IsDone (solo_run demo_turns) (demo_text goals) left None None
  pub written : Adds held now (summary_line goals done.log (world_of done.model done.log))

-- The log of the demonstration's run is full, and an entry is due. Nothing was written.
pub record IsShownInPart (goals : ℕ) (held now : Option (List ℕ)) : Type 0 where
  pub left : Option (List ℕ)
  pub full : IsFull (solo_run demo_turns) (demo_text goals) left None None
  pub silent : now ≡ held

-- A write failed. What went out is a front of the summary of the run.
pub record IsShownShort (goals : ℕ) (held now : Option (List ℕ)) : Type 0 where
  pub left : Option (List ℕ)
  pub done : IsDone (solo_run demo_turns) (demo_text goals) left None None
  pub front : AppendsFront held now (summary_line goals done.log (world_of done.model done.log))

-- how a demonstration ended
abbrev pub Shows : ℕ → (held now : Option (List ℕ)) → Result Outcome Halt → Type 0
Shows goals held now (Ok outcome.Done) = IsShown goals held now
Shows goals held now (Ok outcome.Refused) = ⊥
Shows goals held now (Err halt.Limit) = ⊥
Shows goals held now (Err halt.Full) = IsShownInPart goals held now
Shows goals held now (Err halt.Read) = ⊥
Shows goals held now (Err halt.Write) = IsShownShort goals held now
Shows goals held now (Err halt.Memory) = now ≡ held

-- ---- its parts

-- The text that was kept is a model's.
pub record KeepsModel (kept : Option (Vec ℕ Global)) : Type 0 where
  pub words : List ℕ
  pub model : Model
  pub keeps : Keeps kept words
  pub accepted : IsModelText words model

-- All messages were answered, by a journal that nobody reads.
pub record IsPlayed (model : Model) (start : Place) (new : State) (place : Place) : Type 0 where
  pub plays : AnswersAll IsSoloEvent (fresh_state demo_turns model) start None new place None
  pub legal : Legal new.model new.log

abbrev pub DemoPlays : Model → Place → Result State Halt → Place → Type 0
DemoPlays model start (Ok new) place = IsPlayed model start new place
DemoPlays model start (Err halt.Limit) place = ModelRun IsSoloEvent demo_turns model start None (Err halt.Limit) place None
DemoPlays model start (Err halt.Full) place = ModelRun IsSoloEvent demo_turns model start None (Err halt.Full) place None
DemoPlays model start (Err halt.Read) place = ⊥
DemoPlays model start (Err halt.Write) place = ⊥
DemoPlays model start (Err halt.Memory) place = ⊤

pub record ModelShown (goals : ℕ) (model : Model) (start : Place) (held : Option (List ℕ)) (place : Place)
    (now : Option (List ℕ)) : Type 0 where
  pub new : State
  pub played : IsPlayed model start new place
  pub written : Adds held now (summary_line goals new.log new.world)

pub record ModelShort (goals : ℕ) (model : Model) (start : Place) (held : Option (List ℕ)) (place : Place)
    (now : Option (List ℕ)) : Type 0 where
  pub new : State
  pub played : IsPlayed model start new place
  pub front : AppendsFront held now (summary_line goals new.log new.world)

pub record ModelStops (model : Model) (start : Place) (held : Option (List ℕ)) (e : Halt) (place : Place)
    (now : Option (List ℕ)) : Type 0 where
  pub run : ModelRun IsSoloEvent demo_turns model start None (Err e) place None
  pub silent : now ≡ held

abbrev pub ModelShows : ℕ → Model → Place → Option (List ℕ) → Result Outcome Halt → Place
    → Option (List ℕ) → Type 0
ModelShows goals model start held (Ok outcome.Done) place now = ModelShown goals model start held place now
ModelShows goals model start held (Ok outcome.Refused) place now = ⊥
ModelShows goals model start held (Err halt.Limit) place now = ModelStops model start held halt.Limit place now
ModelShows goals model start held (Err halt.Full) place now = ModelStops model start held halt.Full place now
ModelShows goals model start held (Err halt.Read) place now = ⊥
ModelShows goals model start held (Err halt.Write) place now = ModelShort goals model start held place now
ModelShows goals model start held (Err halt.Memory) place now = now ≡ held

pub record TextShown (goals : ℕ) (kept : Option (Vec ℕ Global)) (start : Place) (held : Option (List ℕ))
    (r : Result Outcome Halt) (place : Place) (now : Option (List ℕ)) : Type 0 where
  pub model : Model
  pub text : IsKeptModel kept model
  pub shows : ModelShows goals model start held r place now

-- what a text that was kept leads to
abbrev pub TextShows : ℕ → Option (Vec ℕ Global) → Place → Option (List ℕ) → Result Outcome Halt → Place
    → Option (List ℕ) → Type 0
TextShows goals kept start held (Ok outcome.Refused) place now = ⊥
TextShows goals kept start held (Ok outcome.Done) place now =
    TextShown goals kept start held (Ok outcome.Done) place now
TextShows goals kept start held (Err halt.Limit) place now =
    TextShown goals kept start held (Err halt.Limit) place now
TextShows goals kept start held (Err halt.Full) place now =
    TextShown goals kept start held (Err halt.Full) place now
TextShows goals kept start held (Err halt.Read) place now = ⊥
TextShows goals kept start held (Err halt.Write) place now =
    TextShown goals kept start held (Err halt.Write) place now
TextShows goals kept start held (Err halt.Memory) place now = now ≡ held
