-- The inputs whose jobs are done.
use Rattle.std.specs.Prelude.{◌≡◌, ℕ, ◌≤◌, ◌⊎◌, List, [], ◌++◌, length, All, Option, Some, IfSome}
use Rattle.pl_io.specs.Lines.{lines_of}
use Rattle.pl_model.specs.declared.whole.Model.{Model}
use Rattle.pl_entry.specs.declared.entry.Entry.{Entry}
use Rattle.pl_input.specs.Words.{split_of}
use Rattle.pl_check.specs.Accepting.{IsModelText}
use Rattle.pl_replay.specs.declared.verdict.Verdict.{Verdict}
use Rattle.pl_replay.specs.Journals.{entry_lines, IsJournalOf, IsWrongAtLast}
use Rattle.pl_main.specs.declared.command.Task.{Task}
use Rattle.pl_main.specs.declared.command.Task.TheVariants as task
use Rattle.pl_main.specs.declared.form.Form.{Form}
use Rattle.pl_main.specs.declared.form.Form.TheVariants as which
use Rattle.pl_main.specs.declared.told.Told.{Told}
use Rattle.pl_main.specs.Forewords.{tells, said_before}
use Rattle.pl_main.specs.Replays.{IsPastJournal}
use Rattle.pl_main.specs.Top.{line_limit, total_limit, IsPastHead}
use Rattle.pl_main.specs.Endings.{RunKind, IsPastLimit}
use Rattle.pl_main.specs.RunKinds.{solo_run}

-- Each line is within the line limit, and the input within the total limit.
pub record IsWithinLimits (limit : ℕ) (input : List ℕ) : Type 0 where
  pub lines : All (λ line. length line ≤ limit) (lines_of input)
  pub total : length input ≤ total_limit

-- The input begins with the text of a model, and no line that is asked for passes a limit.
pub record CanRun (kind : RunKind) (input : List ℕ) : Type 0 where
  pub words : List ℕ
  pub model : Model
  pub text : (split_of input).text ≡ Some words
  pub accepted : IsModelText words model
  pub no_limit : (left held now : Option (List ℕ)) → IsPastLimit kind input left held now → ⊥

-- For a check: the input begins with the text of a model, and no line that is asked for passes a limit.
pub record CanCheck (input : List ℕ) : Type 0 where
  pub words : List ℕ
  pub model : Model
  pub text : (split_of input).text ≡ Some words
  pub accepted : IsModelText words model
  pub no_limit : (left held now : Option (List ℕ)) → IsPastHead line_limit input left held now → ⊥

-- The input begins with the text of a model and with what is asked for before the journal. The journal's lines that are not blank
-- are those of a legal log, and no line passes a limit.
pub record HasRightJournal (form : Form) (input : List ℕ) : Type 0 where
  pub words : List ℕ
  pub model : Model
  pub what : Told
  pub behind : List (List ℕ)
  pub log : List Entry
  pub text : (split_of input).text ≡ Some words
  pub accepted : IsModelText words model
  pub before : said_before form model (lines_of input) ≡ tells what behind
  pub journal : IsJournalOf model (entry_lines behind) log
  pub no_limit : (left held now : Option (List ℕ)) → IsPastJournal form input left held now → ⊥

-- Behind the text of a model and what is asked for before the journal there is no entry, or one is wrong: the lines up to it, and the
-- verdict. No line that is asked for passes a limit.
pub record HasWrongJournal (form : Form) (input : List ℕ) : Type 0 where
  pub words : List ℕ
  pub model : Model
  pub what : Told
  pub behind : List (List ℕ)
  pub front : List (List ℕ)
  pub more : List (List ℕ)
  pub verdict : Verdict
  pub text : (split_of input).text ≡ Some words
  pub accepted : IsModelText words model
  pub before : said_before form model (lines_of input) ≡ tells what behind
  pub lines : entry_lines behind ≡ front ++ more
  pub wrong : ((front ≡ []) × (more ≡ [])) ⊎ IsWrongAtLast model front verdict
  pub no_limit : (left held now : Option (List ℕ)) → IsPastJournal form input left held now → ⊥

-- The job is done, or memory is wanting, or, for a run, the log is full.
abbrev pub IsDoneBy : Task → ℕ → Type 0
IsDoneBy (task.Solo turns) status = (status ≡ 0) ⊎ ((status ≡ 7) ⊎ (status ≡ 9))
IsDoneBy task.Check status = (status ≡ 0) ⊎ (status ≡ 9)
IsDoneBy task.Replay status = (status ≡ 0) ⊎ (status ≡ 9)
IsDoneBy task.Report status = (status ≡ 0) ⊎ (status ≡ 9)
IsDoneBy (task.Flex id) status = (status ≡ 0) ⊎ (status ≡ 9)
IsDoneBy task.Forecast status = (status ≡ 0) ⊎ (status ≡ 9)
IsDoneBy (task.Improve steps) status = (status ≡ 0) ⊎ (status ≡ 9)
IsDoneBy (task.Demo goals) status = (status ≡ 0) ⊎ ((status ≡ 7) ⊎ (status ≡ 9))

-- a run that can be done is done, or memory ran out, or the log is full
abbrev pub CompletesRun : RunKind → Option (List ℕ) → ℕ → Type 0
CompletesRun kind input status = IfSome input (λ bytes. CanRun kind bytes → (status ≡ 0) ⊎ ((status ≡ 7) ⊎ (status ≡ 9)))

-- what the journal is decides between 0 and 8, but for want of memory
pub record Decides (form : Form) (input : List ℕ) (status : ℕ) : Type 0 where
  pub right : HasRightJournal form input → (status ≡ 0) ⊎ (status ≡ 9)
  pub wrong : HasWrongJournal form input → (status ≡ 8) ⊎ (status ≡ 9)

-- a job that can be done is done, where the input's bytes are known, if the task reads them
abbrev pub Completes : Task → Option (List ℕ) → ℕ → Type 0
Completes (task.Solo turns) input status =
    CompletesRun (solo_run turns) input status
Completes task.Check input status = IfSome input (λ bytes. CanCheck bytes → IsDoneBy task.Check status)
Completes task.Replay input status = IfSome input (λ bytes. Decides which.Replay bytes status)
Completes task.Report input status = IfSome input (λ bytes. Decides which.Report bytes status)
Completes (task.Flex id) input status = IfSome input (λ bytes. Decides (which.Flex id) bytes status)
Completes task.Forecast input status = IfSome input (λ bytes. Decides which.Forecast bytes status)
Completes (task.Improve steps) input status = IfSome input (λ bytes. Decides (which.Improve steps) bytes status)
Completes (task.Demo goals) input status = IsDoneBy (task.Demo goals) status
