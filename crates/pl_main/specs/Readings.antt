-- How a model, what stands behind it, and a journal are read back, part by part.
use Rattle.std.specs.Prelude.{◌≡◌, ℕ, ◌⊎◌, List, [], Option, Some, None, Result, Ok, Err}
use Rattle.std.specs.declared.vec.Vec.{Vec}
use Rattle.std.specs.declared.alloc.Global.{Global}
use Rattle.pl_io.specs.declared.errors.LineFault.{LineFault}
use Rattle.pl_io.specs.Writes.{AppendsFront}
use Rattle.pl_model.specs.declared.whole.Model.{Model}
use Rattle.pl_entry.specs.declared.entry.Entry.{Entry}
use Rattle.pl_machine.specs.Sound.{State}
use Rattle.pl_input.specs.declared.halt.Halt.{Halt}
use Rattle.pl_input.specs.declared.halt.Halt.TheVariants as halt
use Rattle.pl_input.specs.Reads.{ReadsLines, IsUsedUp}
use Rattle.pl_input.specs.Stops.{HaltFor}
use Rattle.pl_journal.specs.Written.{Adds}
use Rattle.pl_replay.specs.declared.verdict.Verdict.{Verdict}
use Rattle.pl_replay.specs.Journals.{entry_lines, IsJournalOf, IsWrongAtLast}
use Rattle.pl_replay.specs.Verifying.{EndsInEntry, IsNoJournal, Stops}
use Rattle.pl_report.specs.Verdicts.{verdict_line}
use Rattle.pl_main.specs.declared.form.Form.{Form}
use Rattle.pl_main.specs.declared.told.Told.{Told}
use Rattle.pl_main.specs.declared.judgement.Judgement.{Judgement}
use Rattle.pl_main.specs.declared.judgement.Judgement.TheVariants as judged
use Rattle.pl_input.specs.Places.{Place}
use Rattle.pl_main.specs.Forewords.{ForewordTells, ForewordRefuses, ForewordStops}
use Rattle.pl_main.specs.Runs.{IsKeptModel, TextFails}
use Rattle.pl_main.specs.Replays.{state_of, IsTextOf}

-- a text is written, and then this is answered
abbrev pub WritesAs : Judgement → List ℕ → Option (List ℕ) → Result Judgement Halt → Option (List ℕ) → Type 0
WritesAs judgement text held (Ok given) now = (given ≡ judgement) × Adds held now text
WritesAs judgement text held (Err halt.Write) now = AppendsFront held now text
WritesAs judgement text held (Err halt.Memory) now = now ≡ held
WritesAs judgement text held (Err halt.Read) now = ⊥
WritesAs judgement text held (Err halt.Limit) now = ⊥
WritesAs judgement text held (Err halt.Full) now = ⊥

-- a text that may be written of a legal journal is written, by the machine behind it
abbrev pub WritesRight : Told → State → Option (List ℕ) → Result Judgement Halt → Option (List ℕ) → Type 0
WritesRight what s held (Ok given) now = (given ≡ judged.Right) × ((text : List ℕ) × IsTextOf what s text × Adds held now text)
WritesRight what s held (Err halt.Write) now = (text : List ℕ) × IsTextOf what s text × AppendsFront held now text
WritesRight what s held (Err halt.Memory) now = now ≡ held
WritesRight what s held (Err halt.Read) now = ⊥
WritesRight what s held (Err halt.Limit) now = ⊥
WritesRight what s held (Err halt.Full) now = ⊥

-- what is written of a journal that was judged, by the machine that stands behind a legal one
abbrev pub WritesJudged : Told → Model → Verdict → Option State → Option (List ℕ) → Result Judgement Halt → Option (List ℕ) → Type 0
WritesJudged what m v (Some machine) held r now = WritesRight what machine held r now
WritesJudged what m v None held r now = WritesAs judged.Wrong (verdict_line m v) held r now

-- The lines that are left are those of a legal log.
pub record RightBehind (what : Told) (m : Model) (start : Place) (held : Option (List ℕ)) (place : Place) (now : Option (List ℕ)) : Type 0 where
  pub lines : List (List ℕ)
  pub log : List Entry
  pub took : ReadsLines start.reader start.ahead lines place.reader place.ahead
  pub journal : IsJournalOf m (entry_lines lines) log
  pub used_up : IsUsedUp start.ahead place.ahead
  pub text : List ℕ
  pub says : IsTextOf what (state_of m log) text
  pub written : Adds held now text

-- They have a first wrong entry, or none at all.
pub record WrongBehind (m : Model) (start : Place) (held : Option (List ℕ)) (place : Place) (now : Option (List ℕ)) : Type 0 where
  pub lines : List (List ℕ)
  pub verdict : Verdict
  pub took : ReadsLines start.reader start.ahead lines place.reader place.ahead
  pub wrong : IsNoJournal (entry_lines lines) verdict start.ahead place.ahead ⊎ IsWrongAtLast m (entry_lines lines) verdict
  pub no_further : (entry_lines lines ≡ []) ⊎ EndsInEntry lines
  pub written : Adds held now (verdict_line m verdict)

-- The next line is not given.
pub record StopsBehind (e : Halt) (m : Model) (start : Place) (held : Option (List ℕ)) (place : Place) (now : Option (List ℕ)) : Type 0 where
  pub reason : LineFault
  pub stops : Stops m start.reader start.ahead reason place.reader place.ahead
  pub halts : HaltFor reason e
  pub silent : now ≡ held

-- A front of the text that was due was written.
pub data ShortBehind (what : Told) (m : Model) (start : Place) (held : Option (List ℕ)) (place : Place) (now : Option (List ℕ)) : Type 0 where
  right_cut : (right : RightBehind what m start None place None) → AppendsFront held now right.text → ShortBehind what m start held place now
  wrong_cut : (wrong : WrongBehind m start None place None) → AppendsFront held now (verdict_line m wrong.verdict) → ShortBehind what m start held place now

abbrev pub ModelReads : Told → Model → Place → Option (List ℕ) → Result Judgement Halt → Place → Option (List ℕ) → Type 0
ModelReads what m start held (Ok judged.Right) place now = RightBehind what m start held place now
ModelReads what m start held (Ok judged.Wrong) place now = WrongBehind m start held place now
ModelReads what m start held (Ok judged.Refused) place now = ⊥
ModelReads what m start held (Err halt.Limit) place now = StopsBehind halt.Limit m start held place now
ModelReads what m start held (Err halt.Full) place now = ⊥
ModelReads what m start held (Err halt.Read) place now = StopsBehind halt.Read m start held place now
ModelReads what m start held (Err halt.Write) place now = ShortBehind what m start held place now
ModelReads what m start held (Err halt.Memory) place now = now ≡ held

-- What stands before the journal is read, and then the journal.
pub record JournalRead (form : Form) (m : Model) (start : Place) (held : Option (List ℕ)) (r : Result Judgement Halt) (place : Place) (now : Option (List ℕ)) : Type 0 where
  pub what : Told
  pub middle : Place
  pub before : ForewordTells form m start what middle
  pub reads : ModelReads what m middle held r place now

-- What stands before the journal is refused, and this line is written.
pub record ForewordFails (form : Form) (m : Model) (start : Place) (held : Option (List ℕ)) (place : Place) (now : Option (List ℕ)) : Type 0 where
  pub line : List ℕ
  pub before : ForewordRefuses form m start line place
  pub written : Adds held now line

-- The next line is not given, before the journal or in it.
pub data BehindStops (e : Halt) (form : Form) (m : Model) (start : Place) (held : Option (List ℕ)) (place : Place) (now : Option (List ℕ)) : Type 0 where
  before_journal : ForewordStops e form m start place → now ≡ held → BehindStops e form m start held place now
  in_journal_stops : JournalRead form m start held (Err e) place now → BehindStops e form m start held place now

-- A front of the text that was due was written.
pub data BehindCut (form : Form) (m : Model) (start : Place) (held : Option (List ℕ)) (place : Place) (now : Option (List ℕ)) : Type 0 where
  foreword_cut : (fails : ForewordFails form m start None place None) → AppendsFront held now fails.line → BehindCut form m start held place now
  journal_behind_cut : JournalRead form m start held (Err halt.Write) place now → BehindCut form m start held place now

abbrev pub BehindReads : Form → Model → Place → Option (List ℕ) → Result Judgement Halt → Place → Option (List ℕ) → Type 0
BehindReads form m start held (Ok judged.Right) place now = JournalRead form m start held (Ok judged.Right) place now
BehindReads form m start held (Ok judged.Wrong) place now = JournalRead form m start held (Ok judged.Wrong) place now
BehindReads form m start held (Ok judged.Refused) place now = ForewordFails form m start held place now
BehindReads form m start held (Err halt.Limit) place now = BehindStops halt.Limit form m start held place now
BehindReads form m start held (Err halt.Full) place now = ⊥
BehindReads form m start held (Err halt.Read) place now = BehindStops halt.Read form m start held place now
BehindReads form m start held (Err halt.Write) place now = BehindCut form m start held place now
BehindReads form m start held (Err halt.Memory) place now = now ≡ held

pub record TextRead (form : Form) (kept : Option (Vec ℕ Global)) (start : Place) (held : Option (List ℕ)) (r : Result Judgement Halt) (place : Place) (now : Option (List ℕ)) : Type 0 where
  pub model : Model
  pub text : IsKeptModel kept model
  pub reads : BehindReads form model start held r place now

-- A text is refused, and the line that says so is written: the model's text, behind which no line is asked for, or what stands
-- before the journal.
pub data TextRefused (form : Form) (kept : Option (Vec ℕ Global)) (start : Place) (held : Option (List ℕ)) (place : Place) (now : Option (List ℕ)) : Type 0 where
  text_fails : TextFails kept held now → place ≡ start → TextRefused form kept start held place now
  foreword_fails : TextRead form kept start held (Ok judged.Refused) place now → TextRefused form kept start held place now

-- A front of the text that was due was written, for what stands behind the model's text, or of the line that refuses this text.
pub data TextCut (form : Form) (kept : Option (Vec ℕ Global)) (start : Place) (held : Option (List ℕ)) (place : Place) (now : Option (List ℕ)) : Type 0 where
  behind_cut : TextRead form kept start held (Err halt.Write) place now → TextCut form kept start held place now
  refusal_cut : (fails : TextFails kept None None) → AppendsFront held now fails.line → place ≡ start → TextCut form kept start held place now

abbrev pub TextReads : Form → Option (Vec ℕ Global) → Place → Option (List ℕ) → Result Judgement Halt → Place → Option (List ℕ) → Type 0
TextReads form kept start held (Ok judged.Right) place now = TextRead form kept start held (Ok judged.Right) place now
TextReads form kept start held (Ok judged.Wrong) place now = TextRead form kept start held (Ok judged.Wrong) place now
TextReads form kept start held (Ok judged.Refused) place now = TextRefused form kept start held place now
TextReads form kept start held (Err halt.Limit) place now = TextRead form kept start held (Err halt.Limit) place now
TextReads form kept start held (Err halt.Full) place now = ⊥
TextReads form kept start held (Err halt.Read) place now = TextRead form kept start held (Err halt.Read) place now
TextReads form kept start held (Err halt.Write) place now = TextCut form kept start held place now
TextReads form kept start held (Err halt.Memory) place now = now ≡ held
