-- What is promised of `replay`, `report`, `flex ID`, `forecast` and `improve N`.
use Rattle.std.specs.Prelude.{◌≡◌, ℕ, ◌⊎◌, List, [], length, false, Option, Some, None, Result, Ok, Err, ⊤}
use Rattle.pl_io.specs.Writes.{AppendsFront}
use Rattle.pl_model.specs.declared.whole.Model.{Model}
use Rattle.pl_entry.specs.declared.entry.Entry.{Entry}
use Rattle.pl_input.specs.Words.{model_text_of}
use Rattle.pl_machine.specs.Legal.{Legal, world_of}
use Rattle.pl_machine.specs.Sound.{State}
use Rattle.pl_check.specs.Accepting.{IsModelText}
use Rattle.pl_input.specs.declared.halt.Halt.{Halt}
use Rattle.pl_input.specs.declared.halt.Halt.TheVariants as halt
use Rattle.pl_input.specs.Reads.{GivesLines}
use Rattle.pl_input.specs.Stops.{IsStuck}
use Rattle.pl_journal.specs.Written.{Adds}
use Rattle.pl_replay.specs.declared.verdict.Verdict.{Verdict}
use Rattle.pl_replay.specs.declared.verdict.Verdict.TheVariants as verdict
use Rattle.pl_replay.specs.Journals.{entry_lines, lines_from, IsJournalOf, IsWrongAtLast}
use Rattle.pl_replay.specs.Verifying.{EndsInEntry}
use Rattle.pl_report.specs.Reports.{report_of}
use Rattle.pl_report.specs.Flexes.{IsFlexText}
use Rattle.pl_report.specs.Forecasts.{forecast_text}
use Rattle.pl_report.specs.Improvements.{IsImprovement}
use Rattle.pl_report.specs.Verdicts.{verdict_line}
use Rattle.pl_main.specs.declared.form.Form.{Form}
use Rattle.pl_main.specs.declared.told.Told.{Told}
use Rattle.pl_main.specs.declared.told.Told.TheVariants as told
use Rattle.pl_main.specs.declared.judgement.Judgement.{Judgement}
use Rattle.pl_main.specs.declared.judgement.Judgement.TheVariants as judged
use Rattle.pl_main.specs.Forewords.{unended, tells, refuses, said_before}
use Rattle.pl_main.specs.Top.{total_limit, IsReadTo, ShowsNoLine, ShowsLimit, IsNoModel}

-- the most bytes of a line, where a journal is read
abbrev pub journal_line_limit : ℕ
journal_line_limit = 4160

-- the machine behind a log
abbrev pub state_of : Model → List Entry → State
state_of m log = record { spoiled = false; model = m; log = log; world = world_of m log }

-- what may be written of a legal journal: the verdict, the report, how far activities can move, where levels leave their limits, or
-- how steps better the plan
abbrev pub IsTextOf : Told → State → List ℕ → Type 0
IsTextOf told.Verdict s text = text ≡ verdict_line s.model (verdict.Legal (length s.log) s.world.done)
IsTextOf told.Report s text = text ≡ report_of s
IsTextOf (told.Flex id) s text = IsFlexText s.world.state id text
IsTextOf (told.Forecast rates) s text = text ≡ forecast_text s.world.state rates
IsTextOf (told.Improve steps prefers) s text = IsImprovement s.world.state prefers steps text

-- The lines that were taken, each within the limits: the text of a model up to a `begin` line, what is asked for before the
-- journal, by which this is to be told of it, and these lines behind. With them came fewer bytes than one read asks for.
pub record HasTaken (form : Form) (m : Model) (input words : List ℕ) (what : Told) (taken : List (List ℕ)) (rest : List ℕ) (source_left : Option (List ℕ)) : Type 0 where
  pub lines : List (List ℕ)
  pub left : ℕ
  pub gave : GivesLines journal_line_limit total_limit input lines left rest
  pub text : model_text_of lines ≡ Some words
  pub behind : said_before form m lines ≡ tells what taken
  pub source : IsReadTo rest source_left

-- The journal's lines that are not blank are those of a legal log. All bytes were read.
pub record IsRightJournal (form : Form) (input : List ℕ) (source_left held now : Option (List ℕ)) : Type 0 where
  pub model : Model
  pub log : List Entry
  pub words : List ℕ
  pub what : Told
  pub behind : List (List ℕ)
  pub accepted : IsModelText words model
  pub read : HasTaken form model input words what behind [] source_left
  pub journal : IsJournalOf model (entry_lines behind) log
  pub text : List ℕ
  pub says : IsTextOf what (state_of model log) text
  pub written : Adds held now text

-- There is no entry in all of these lines, or the last of them is wrong: its verdict.
pub data IsWrong (m : Model) (behind : List (List ℕ)) (rest : List ℕ) (v : Verdict) : Type 0 where
  no_entry : entry_lines behind ≡ [] → rest ≡ [] → v ≡ verdict.NotALine 0 → IsWrong m behind rest v
  wrong_last : IsWrongAtLast m (entry_lines behind) v → EndsInEntry behind → IsWrong m behind rest v

-- The journal's lines have a first wrong entry, or none at all. No line behind it was asked for.
pub record IsWrongJournal (form : Form) (input : List ℕ) (source_left held now : Option (List ℕ)) : Type 0 where
  pub model : Model
  pub verdict : Verdict
  pub words : List ℕ
  pub what : Told
  pub behind : List (List ℕ)
  pub rest : List ℕ
  pub accepted : IsModelText words model
  pub read : HasTaken form model input words what behind rest source_left
  pub wrong : IsWrong model behind rest verdict
  pub written : Adds held now (verdict_line model verdict)

-- What stands before the journal is refused: this line refuses it, behind which no line was asked for, or the input ends there.
pub data IsRefusedBy (form : Form) (m : Model) (lines : List (List ℕ)) (rest line : List ℕ) : Type 0 where
  by_line : said_before form m lines ≡ refuses line [] → IsRefusedBy form m lines rest line
  by_end : said_before form m lines ≡ unended line → rest ≡ [] → IsRefusedBy form m lines rest line

-- The input begins with a model, and what stands between it and the journal is refused.
pub record IsNoForeword (form : Form) (input : List ℕ) (source_left held now : Option (List ℕ)) : Type 0 where
  pub model : Model
  pub words : List ℕ
  pub lines : List (List ℕ)
  pub left : ℕ
  pub rest : List ℕ
  pub line : List ℕ
  pub gave : GivesLines journal_line_limit total_limit input lines left rest
  pub text : model_text_of lines ≡ Some words
  pub accepted : IsModelText words model
  pub refused : IsRefusedBy form model lines rest line
  pub source : IsReadTo rest source_left
  pub written : Adds held now line

-- The input begins with no model, or what stands behind the model is refused.
pub data IsRefused (form : Form) (input : List ℕ) (source_left held now : Option (List ℕ)) : Type 0 where
  no_model : IsNoModel journal_line_limit input source_left held now → IsRefused form input source_left held now
  no_foreword : IsNoForeword form input source_left held now → IsRefused form input source_left held now

-- nothing is refused before the journal so far, or no entry of it is wrong so far
pub data IsRightBehind (form : Form) (m : Model) (lines : List (List ℕ)) : Type 0 where
  in_foreword : (line : List ℕ) → said_before form m lines ≡ unended line → IsRightBehind form m lines
  in_journal : (what : Told) (taken : List (List ℕ)) (log : List Entry) → said_before form m lines ≡ tells what taken
      → (log ≡ []) ⊎ Legal m log → entry_lines taken ≡ lines_from m 0 log → IsRightBehind form m lines

-- The lines behind a model's text, of which none is wrong so far.
pub record IsRightSoFar (form : Form) (lines : List (List ℕ)) : Type 0 where
  pub model : Model
  pub words : List ℕ
  pub text : model_text_of lines ≡ Some words
  pub accepted : IsModelText words model
  pub right : IsRightBehind form model lines

-- The line asked for is too long, or the input is: behind these lines, while the model's text was read, or behind lines of which none is wrong. The bytes that came behind them show it, and none is lost. Nothing was written.
pub record IsPastJournal (form : Form) (input : List ℕ) (source_left held now : Option (List ℕ)) : Type 0 where
  pub lines : List (List ℕ)
  pub left : ℕ
  pub rest : List ℕ
  pub gave : GivesLines journal_line_limit total_limit input lines left rest
  pub why : IsStuck journal_line_limit left rest
  pub source : ShowsLimit journal_line_limit left rest source_left
  pub asked : (model_text_of lines ≡ None) ⊎ IsRightSoFar form lines
  pub silent : now ≡ held

-- A read failed: behind these lines, as above. The source had shown no further one. Nothing was written.
pub record IsJournalFault (form : Form) (input : List ℕ) (source_left held now : Option (List ℕ)) : Type 0 where
  pub lines : List (List ℕ)
  pub left : ℕ
  pub rest : List ℕ
  pub gave : GivesLines journal_line_limit total_limit input lines left rest
  pub source : ShowsNoLine journal_line_limit left rest source_left
  pub asked : (model_text_of lines ≡ None) ⊎ IsRightSoFar form lines
  pub silent : now ≡ held

-- A write failed. What went out is a front of the text that was due.
pub data IsJournalShort (form : Form) (input : List ℕ) (source_left held now : Option (List ℕ)) : Type 0 where
  of_right : (right : IsRightJournal form input source_left None None)
      → AppendsFront held now right.text → IsJournalShort form input source_left held now
  of_wrong : (wrong : IsWrongJournal form input source_left None None)
      → AppendsFront held now (verdict_line wrong.model wrong.verdict) → IsJournalShort form input source_left held now
  of_refusal : (line : List ℕ) → IsRefused form input source_left (Some []) (Some line)
      → AppendsFront held now line → IsJournalShort form input source_left held now

-- How a journal was read, where the input's bytes are known.
abbrev pub ReadsBack : Form → List ℕ → (source_left held now : Option (List ℕ)) → Result Judgement Halt → Type 0
ReadsBack form input source_left held now (Ok judged.Right) = IsRightJournal form input source_left held now
ReadsBack form input source_left held now (Ok judged.Wrong) = IsWrongJournal form input source_left held now
ReadsBack form input source_left held now (Ok judged.Refused) = IsRefused form input source_left held now
ReadsBack form input source_left held now (Err halt.Limit) = IsPastJournal form input source_left held now
ReadsBack form input source_left held now (Err halt.Full) = ⊥
ReadsBack form input source_left held now (Err halt.Read) = IsJournalFault form input source_left held now
ReadsBack form input source_left held now (Err halt.Write) = IsJournalShort form input source_left held now
ReadsBack form input source_left held now (Err halt.Memory) = now ≡ held

abbrev pub ReadsBackKnown : Form → (input source_left held now : Option (List ℕ)) → Result Judgement Halt → Type 0
ReadsBackKnown form None source_left held now r = ⊤
ReadsBackKnown form (Some input) source_left held now r = ReadsBack form input source_left held now r
