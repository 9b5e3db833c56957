-- The statuses of the program.
use Rattle.std.specs.Prelude.{◌≡◌, ℕ, ◌≤◌, List, Contains, Option, Some, None, Result, Ok, Err, ⊤, codes, ◌++◌, ◌∷◌, []}
use Rattle.pl_main.specs.declared.command.Task.{Task}
use Rattle.pl_main.specs.declared.command.Task.TheVariants as task
use Rattle.pl_input.specs.declared.halt.Halt.{Halt}
use Rattle.pl_input.specs.declared.halt.Halt.TheVariants as halt
use Rattle.pl_main.specs.declared.outcome.Outcome.{Outcome}
use Rattle.pl_main.specs.declared.outcome.Outcome.TheVariants as outcome
use Rattle.pl_main.specs.declared.form.Form.{Form}
use Rattle.pl_main.specs.declared.form.Form.TheVariants as which
use Rattle.pl_main.specs.declared.judgement.Judgement.{Judgement}
use Rattle.pl_main.specs.declared.judgement.Judgement.TheVariants as judged
use Rattle.pl_main.specs.Replays.{IsRightJournal, IsWrongJournal, IsRefused, IsPastJournal, IsJournalFault, IsJournalShort}
use Rattle.pl_main.specs.Top.{line_limit, IsFound, IsNoModel, IsHeadFault, IsPastHead, IsCheckShort}
use Rattle.pl_main.specs.Endings.{RunKind, IsDone, IsReadFault, IsPastLimit, IsFull, IsShort, IsOutOfMemory}
use Rattle.pl_main.specs.RunKinds.{solo_run}
use Rattle.pl_main.specs.Demos.{IsShown, IsShownInPart, IsShownShort}

-- 0 done, 3 the model is refused, 4 a read failed, 5 a write failed, 6 a line or the input is too long, 7 the log is full, 8 the journal is wrong, 9 memory
abbrev pub status_of : Result Outcome Halt → ℕ
status_of (Ok outcome.Done) = 0
status_of (Ok outcome.Refused) = 3
status_of (Err halt.Read) = 4
status_of (Err halt.Write) = 5
status_of (Err halt.Limit) = 6
status_of (Err halt.Full) = 7
status_of (Err halt.Memory) = 9

-- where a journal is read: 0 it is right, 3 what stands before it is refused, 8 it is wrong, and the other statuses as above
abbrev pub status_of_journal : Result Judgement Halt → ℕ
status_of_journal (Ok judged.Right) = 0
status_of_journal (Ok judged.Refused) = 3
status_of_journal (Ok judged.Wrong) = 8
status_of_journal (Err e) = status_of (Err e)

abbrev pub IsTask : Task → Type 0
IsTask (task.Solo turns) = (1 ≤ turns) × (turns ≤ 1000)
IsTask task.Check = ⊤
IsTask task.Replay = ⊤
IsTask task.Report = ⊤
IsTask (task.Flex id) = ⊤
IsTask task.Forecast = ⊤
IsTask (task.Improve steps) = (1 ≤ steps) × (steps ≤ 1000)
IsTask (task.Demo goals) = (1 ≤ goals) × (goals ≤ 4000)

-- What the status of a run says where the input's bytes are known. Only what was written needs those of the sink.
pub record SaysEnded (kind : RunKind) (input : List ℕ) (source_left held now : Option (List ℕ)) (status : ℕ)
    : Type 0 where
  pub done : status ≡ 0 → IsDone kind input source_left held now
  pub refused : status ≡ 3 → IsNoModel line_limit input source_left held now
  pub read_fault : status ≡ 4 → IsReadFault kind input source_left held now
  pub short : status ≡ 5 → IsShort kind input source_left held now
  pub limit : status ≡ 6 → IsPastLimit kind input source_left held now
  pub full : status ≡ 7 → IsFull kind input source_left held now
  pub never_wrong : status ≡ 8 → ⊥
  pub memory : status ≡ 9 → IsOutOfMemory kind input source_left held now

abbrev pub SaysEndedKnown : RunKind → (input source_left held now : Option (List ℕ)) → ℕ → Type 0
SaysEndedKnown kind None source_left held now status = ⊤
SaysEndedKnown kind (Some input) source_left held now status = SaysEnded kind input source_left held now status

-- what the status of a check says
pub record SaysChecked (input : List ℕ) (source_left held now : Option (List ℕ)) (status : ℕ)
    : Type 0 where
  pub done : status ≡ 0 → IsFound input source_left held now
  pub refused : status ≡ 3 → IsNoModel line_limit input source_left held now
  pub read_fault : status ≡ 4 → IsHeadFault line_limit input source_left held now
  pub short : status ≡ 5 → IsCheckShort input source_left held now
  pub limit : status ≡ 6 → IsPastHead line_limit input source_left held now
  pub never_full : status ≡ 7 → ⊥
  pub never_wrong : status ≡ 8 → ⊥
  pub silent : status ≡ 9 → now ≡ held

-- What the status of a replay says, of a report, of what moves, of a forecast, or of what betters a plan.
pub record SaysReadBack (form : Form) (input : List ℕ) (source_left held now : Option (List ℕ)) (status : ℕ)
    : Type 0 where
  pub done : status ≡ 0 → IsRightJournal form input source_left held now
  pub refused : status ≡ 3 → IsRefused form input source_left held now
  pub read_fault : status ≡ 4 → IsJournalFault form input source_left held now
  pub short : status ≡ 5 → IsJournalShort form input source_left held now
  pub limit : status ≡ 6 → IsPastJournal form input source_left held now
  pub never_full : status ≡ 7 → ⊥
  pub wrong : status ≡ 8 → IsWrongJournal form input source_left held now
  pub silent : status ≡ 9 → now ≡ held

-- What the status of a demonstration says, which reads nothing: its input begins with a model, no line of it is too long, and
-- no read of it fails.
pub record SaysShown (goals : ℕ) (held now : Option (List ℕ)) (status : ℕ) : Type 0 where
  pub done : status ≡ 0 → IsShown goals held now
  pub never_refused : status ≡ 3 → ⊥
  pub never_read : status ≡ 4 → ⊥
  pub short : status ≡ 5 → IsShownShort goals held now
  pub never_limit : status ≡ 6 → ⊥
  pub full : status ≡ 7 → IsShownInPart goals held now
  pub never_wrong : status ≡ 8 → ⊥
  pub silent : status ≡ 9 → now ≡ held

-- what a status says where the input's bytes are known, if the task reads them
abbrev pub SaysKnown : Task → (input source_left held now : Option (List ℕ)) → ℕ → Type 0
SaysKnown (task.Solo turns) input source_left held now status = SaysEndedKnown (solo_run turns) input source_left held now status
SaysKnown task.Check None source_left held now status = ⊤
SaysKnown task.Check (Some input) source_left held now status =
    SaysChecked input source_left held now status
SaysKnown task.Replay None source_left held now status = ⊤
SaysKnown task.Replay (Some input) source_left held now status =
    SaysReadBack which.Replay input source_left held now status
SaysKnown task.Report None source_left held now status = ⊤
SaysKnown task.Report (Some input) source_left held now status =
    SaysReadBack which.Report input source_left held now status
SaysKnown (task.Flex id) None source_left held now status = ⊤
SaysKnown (task.Flex id) (Some input) source_left held now status =
    SaysReadBack (which.Flex id) input source_left held now status
SaysKnown task.Forecast None source_left held now status = ⊤
SaysKnown task.Forecast (Some input) source_left held now status =
    SaysReadBack which.Forecast input source_left held now status
SaysKnown (task.Improve steps) None source_left held now status = ⊤
SaysKnown (task.Improve steps) (Some input) source_left held now status =
    SaysReadBack (which.Improve steps) input source_left held now status
SaysKnown (task.Demo goals) input source_left held now status = SaysShown goals held now status

-- The statuses that a job of one thread can end with, whatever is told of its input: 3, 4 and 6 come of a job that reads its
-- input, 7 of one that makes a log, 8 of one that reads a log back.
abbrev pub statuses_of : Task → List ℕ
statuses_of (task.Solo turns) = 0 ∷ 3 ∷ 4 ∷ 5 ∷ 6 ∷ 7 ∷ 9 ∷ []
statuses_of task.Check = 0 ∷ 3 ∷ 4 ∷ 5 ∷ 6 ∷ 9 ∷ []
statuses_of task.Replay = 0 ∷ 3 ∷ 4 ∷ 5 ∷ 6 ∷ 8 ∷ 9 ∷ []
statuses_of task.Report = 0 ∷ 3 ∷ 4 ∷ 5 ∷ 6 ∷ 8 ∷ 9 ∷ []
statuses_of (task.Flex id) = 0 ∷ 3 ∷ 4 ∷ 5 ∷ 6 ∷ 8 ∷ 9 ∷ []
statuses_of task.Forecast = 0 ∷ 3 ∷ 4 ∷ 5 ∷ 6 ∷ 8 ∷ 9 ∷ []
statuses_of (task.Improve steps) = 0 ∷ 3 ∷ 4 ∷ 5 ∷ 6 ∷ 8 ∷ 9 ∷ []
statuses_of (task.Demo goals) = 0 ∷ 5 ∷ 7 ∷ 9 ∷ []

-- The statuses that a run of a pair or a crew can end with, and a run that looks ahead.
abbrev pub pair_statuses : List ℕ
pair_statuses = 0 ∷ 3 ∷ 4 ∷ 5 ∷ 6 ∷ 7 ∷ 9 ∷ []

unfoldable pub IsStatusOf : Task → ℕ → Type 0
IsStatusOf job status = Contains (statuses_of job) status

unfoldable pub IsPairStatus : ℕ → Type 0
IsPairStatus status = Contains pair_statuses status

abbrev pub usage_line : List ℕ
usage_line = codes "usage: run solo N | run pair N SEED | check | replay | report | demo N | run crew N P SEED | flex ID | forecast | improve N" ++ 10 ∷ []
