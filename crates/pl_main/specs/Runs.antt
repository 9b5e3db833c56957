-- A run over a model, and over the text of one.
use Rattle.std.specs.Prelude.{◌≡◌, ◌≤◌, ℕ, List, [], ◌∷◌, false, Option, None, Result, Ok, Err, ⊤}
use Rattle.std.specs.declared.vec.Vec.{Vec}
use Rattle.std.specs.declared.alloc.Global.{Global}
use Rattle.pl_io.specs.Writes.{AppendsFront}
use Rattle.pl_model.specs.declared.whole.Model.{Model}
use Rattle.pl_machine.specs.Legal.{Legal, opening}
use Rattle.pl_machine.specs.World.{fresh_world}
use Rattle.pl_machine.specs.Sound.{State}
use Rattle.pl_journal.specs.Rendering.Lines.{text_from}
use Rattle.pl_check.specs.declared.accepting.Accepted.{Accepted}
use Rattle.pl_check.specs.Accepting.{IsModelText, IsRefusedAs, Accepts}
use Rattle.pl_input.specs.declared.halt.Halt.{Halt}
use Rattle.pl_input.specs.declared.halt.Halt.TheVariants as halt
use Rattle.pl_main.specs.declared.outcome.Outcome.{Outcome}
use Rattle.pl_main.specs.declared.outcome.Outcome.TheVariants as outcome
use Rattle.pl_input.specs.Heads.{Keeps}
use Rattle.pl_journal.specs.Written.{Adds}
use Rattle.pl_input.specs.Places.{Place}
use Rattle.pl_main.specs.Solo.{Rule}
use Rattle.pl_main.specs.Plays.{AnswersAllOrStops}
use Rattle.pl_main.specs.Top.{program_options, model_ok_line}
use Rattle.pl_pair.specs.Runs.{PairRun}
use Rattle.pl_many.specs.CrewRuns.{CrewRun}
use Rattle.pl_main.specs.declared.command.Team.{Team}
use Rattle.pl_main.specs.declared.command.Team.TheVariants as team

abbrev pub fresh_state : ℕ → Model → State
fresh_state turns m = record { spoiled = false; model = m; log = opening (program_options turns) ∷ []; world = fresh_world m (program_options turns) }

-- The open entry's line was written, and then the messages were played.
pub record ModelRun (R : Rule) (turns : ℕ) (model : Model) (start : Place) (held : Option (List ℕ))
    (r : Result (Unit {0}) Halt) (place : Place) (now : Option (List ℕ)) : Type 0 where
  pub opened : Option (List ℕ)
  pub new : State
  pub first : Adds held opened (text_from model 0 (opening (program_options turns) ∷ []))
  pub playing : AnswersAllOrStops R (fresh_state turns model) start opened r new place now
  pub legal : Legal new.model new.log

-- A run over a model that was cut short: memory was wanting before its journal, or a front of the open entry's line was
-- written and no line was asked for, or it came so far.
pub data ModelBreaks (R : Rule) (e : Halt) (turns : ℕ) (model : Model) (start : Place) (held : Option (List ℕ)) (place : Place)
    (now : Option (List ℕ)) : Type 0 where
  unopened : e ≡ halt.Memory → now ≡ held → ModelBreaks R e turns model start held place now
  in_opening : Legal model (opening (program_options turns) ∷ [])
      → AppendsFront held now (text_from model 0 (opening (program_options turns) ∷ [])) → place ≡ start
      → ModelBreaks R e turns model start held place now
  in_play : ModelRun R turns model start held (Err e) place now → ModelBreaks R e turns model start held place now

abbrev pub ModelRuns : Rule → ℕ → Model → Place → Option (List ℕ) → Result (Unit {0}) Halt → Place
    → Option (List ℕ) → Type 0
ModelRuns R turns model start held (Ok u) place now = ModelRun R turns model start held (Ok u) place now
ModelRuns R turns model start held (Err halt.Limit) place now =
    ModelRun R turns model start held (Err halt.Limit) place now
ModelRuns R turns model start held (Err halt.Full) place now =
    ModelRun R turns model start held (Err halt.Full) place now
ModelRuns R turns model start held (Err halt.Read) place now =
    ModelRun R turns model start held (Err halt.Read) place now
ModelRuns R turns model start held (Err halt.Write) place now =
    ModelBreaks R halt.Write turns model start held place now
ModelRuns R turns model start held (Err halt.Memory) place now =
    ModelBreaks R halt.Memory turns model start held place now

-- what a team does with a machine
abbrev pub RunsAs : Team → State → Place → Option (List ℕ) → Result (Unit {0}) Halt → Place → Option (List ℕ) → Type 0
RunsAs (team.Pair seed) start place held r behind now = PairRun seed start place held r behind now
RunsAs (team.Crew planners seed) start place held r behind now = CrewRun planners seed start place held r behind now

-- the seed and the number of the planners of a crew are within their bounds
abbrev pub IsTeam : Team → Type 0
IsTeam (team.Pair seed) = ⊤
IsTeam (team.Crew planners seed) = (2 ≤ planners) × (planners ≤ 8) × (seed ≤ 999999999999999999)

-- what it comes to over a model
abbrev pub ModelRunsAs : Team → ℕ → Model → Place → Option (List ℕ) → Result (Unit {0}) Halt → Place → Option (List ℕ) → Type 0
ModelRunsAs t turns model start held r place now = RunsAs t (fresh_state turns model) start held r place now

-- what the text that is kept is
abbrev pub AcceptsKept : Option (Vec ℕ Global) → Accepted → Type 0
AcceptsKept kept accepted = (words : List ℕ) → Keeps kept words → Accepts words accepted

abbrev pub IsKeptModel : Option (Vec ℕ Global) → Model → Type 0
IsKeptModel kept model = (words : List ℕ) → Keeps kept words → IsModelText words model

-- what a kind of run comes to over a model, from a place on
abbrev pub RunsOver : Type 1
RunsOver = Model → Place → Option (List ℕ) → Result (Unit {0}) Halt → Place → Option (List ℕ) → Type 0

-- The text is a model's, and a run over it came to this.
pub record TextRun (Over : RunsOver) (kept : Option (Vec ℕ Global)) (start : Place) (held : Option (List ℕ))
    (r : Result (Unit {0}) Halt) (place : Place) (now : Option (List ℕ)) : Type 0 where
  pub model : Model
  pub text : IsKeptModel kept model
  pub run : Over model start held r place now

-- The text is no model's, and its fault was written.
pub record TextFails (kept : Option (Vec ℕ Global)) (held now : Option (List ℕ)) : Type 0 where
  pub line : List ℕ
  pub refused : (words : List ℕ) → Keeps kept words → IsRefusedAs words line
  pub written : Adds held now line

-- A run over a text that was cut short: memory ran out before the text was judged, or a front of the line that refuses it was
-- written, or the run over its model was cut short.
pub data TextBreaks (Over : RunsOver) (e : Halt) (kept : Option (Vec ℕ Global)) (start : Place) (held : Option (List ℕ))
    (place : Place) (now : Option (List ℕ)) : Type 0 where
  unjudged : e ≡ halt.Memory → now ≡ held → TextBreaks Over e kept start held place now
  in_fault : e ≡ halt.Write → (fails : TextFails kept None None) → AppendsFront held now fails.line → place ≡ start
      → TextBreaks Over e kept start held place now
  in_run : TextRun Over kept start held (Err e) place now → TextBreaks Over e kept start held place now

-- Behind a text that is refused no line is asked for.
abbrev pub TextRuns : RunsOver → Option (Vec ℕ Global) → Place → Option (List ℕ) → Result Outcome Halt → Place
    → Option (List ℕ) → Type 0
TextRuns Over kept start held (Ok outcome.Refused) place now = TextFails kept held now × (place ≡ start)
TextRuns Over kept start held (Ok outcome.Done) place now = TextRun Over kept start held (Ok tt) place now
TextRuns Over kept start held (Err halt.Limit) place now = TextRun Over kept start held (Err halt.Limit) place now
TextRuns Over kept start held (Err halt.Full) place now = TextRun Over kept start held (Err halt.Full) place now
TextRuns Over kept start held (Err halt.Read) place now = TextRun Over kept start held (Err halt.Read) place now
TextRuns Over kept start held (Err halt.Write) place now = TextBreaks Over halt.Write kept start held place now
TextRuns Over kept start held (Err halt.Memory) place now = TextBreaks Over halt.Memory kept start held place now

-- The text is a model's, and this was written.
pub record TextPasses (kept : Option (Vec ℕ Global)) (held now : Option (List ℕ)) : Type 0 where
  pub model : Model
  pub text : IsKeptModel kept model
  pub written : Adds held now (model_ok_line model)

-- A write failed. What went out is a front of the line that was due.
pub data TextChecksShort (kept : Option (Vec ℕ Global)) (held now : Option (List ℕ)) : Type 0 where
  of_model : (m : Model) → IsKeptModel kept m → AppendsFront held now (model_ok_line m) → TextChecksShort kept held now
  of_refusal : (line : List ℕ) → ((words : List ℕ) → Keeps kept words → IsRefusedAs words line) → AppendsFront held now line
      → TextChecksShort kept held now

abbrev pub TextChecks : Option (Vec ℕ Global) → Option (List ℕ) → Result Outcome Halt → Option (List ℕ) → Type 0
TextChecks kept held (Ok outcome.Done) now = TextPasses kept held now
TextChecks kept held (Ok outcome.Refused) now = TextFails kept held now
TextChecks kept held (Err halt.Limit) now = ⊥
TextChecks kept held (Err halt.Full) now = ⊥
TextChecks kept held (Err halt.Read) now = ⊥
TextChecks kept held (Err halt.Write) now = TextChecksShort kept held now
TextChecks kept held (Err halt.Memory) now = now ≡ held
