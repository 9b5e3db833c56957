-- What is right and what is wrong of a journal, line by line. Blank lines are none of it.
use Rattle.std.specs.Prelude.{◌≡◌, ◌≢◌, ℕ, ◌+◌, ◌<◌, ◌≤◌, ◌⊎◌, true, false, List, [], ◌∷◌, ◌++◌, length, filter, not, Option, Some, None}
use Rattle.pl_model.specs.declared.whole.Model.{Model}
use Rattle.pl_facts.specs.declared.options.Options.{Options}
use Rattle.pl_entry.specs.declared.entry.Entry.{Entry}
use Rattle.pl_entry.specs.declared.reply.Reply.{Reply}
use Rattle.pl_journal.specs.Rendering.Lines.{text_of}
use Rattle.pl_journal.specs.Parsing.Journal.{IsLineOf}
use Rattle.pl_input.specs.Words.{is_blank_line}
use Rattle.pl_machine.specs.Step.{is_enabled, reply_of}
use Rattle.pl_machine.specs.Legal.{Legal, opening, options_of, world_of}
use Rattle.pl_machine.specs.Sound.{State}
use Rattle.pl_replay.specs.declared.verdict.Verdict.{Verdict}
use Rattle.pl_replay.specs.declared.verdict.Verdict.TheVariants as verdict

-- the lines of a journal that are to be entries
abbrev pub entry_lines : List (List ℕ) → List (List ℕ)
entry_lines lines = filter (λ line. not (is_blank_line line)) lines

-- the lines of entries without their newlines, numbered from a number on
abbrev pub lines_from : Model → ℕ → List Entry → List (List ℕ)
lines_from m n [] = []
lines_from m n (e ∷ es) = text_of m n e ∷ lines_from m (n + 1) es

-- The lines are those of this legal log.
pub record IsJournalOf (m : Model) (lines : List (List ℕ)) (log : List Entry) : Type 0 where
  pub legal : Legal m log
  pub shows : lines ≡ lines_from m 0 log

-- The line is no entry's that could stand under the number.
abbrev pub IsNoLine : Model → List ℕ → ℕ → Type 0
IsNoLine m line n = (e : Entry) → IsLineOf m line n e → ⊥

-- The line is that of the entry behind this log, which is as many entries long as the entry's number.
abbrev pub IsNextLine : Model → List Entry → List ℕ → Entry → Type 0
IsNextLine m log line e = IsLineOf m line (length log) e

-- The event may not be made after the log.
pub record ComesAtNoTime (m : Model) (log : List Entry) (line : List ℕ) : Type 0 where
  pub entry : Entry
  pub reads : IsNextLine m log line entry
  pub disabled : is_enabled (world_of m log) entry.event ≡ false

-- The event may be made, but the log has as many entries as its options allow.
pub record ComesTooLate (m : Model) (log : List Entry) (line : List ℕ) : Type 0 where
  pub entry : Entry
  pub reads : IsNextLine m log line entry
  pub enabled : is_enabled (world_of m log) entry.event ≡ true
  pub full : (options_of log).entries ≤ length log

-- The event may be made and has its place, but a machine answers otherwise than the line says.
pub record IsAnsweredOtherwise (m : Model) (log : List Entry) (line : List ℕ) (answer : Reply) : Type 0 where
  pub entry : Entry
  pub reads : IsNextLine m log line entry
  pub enabled : is_enabled (world_of m log) entry.event ≡ true
  pub room : length log < (options_of log).entries
  pub answers : answer ≡ reply_of (world_of m log) entry.event
  pub differs : entry.reply ≢ answer

-- what the verdict says of the line behind a legal log
abbrev pub IsWrongBehind : Model → List Entry → List ℕ → Verdict → Type 0
IsWrongBehind m log line (verdict.Legal entries done) = ⊥
IsWrongBehind m log line (verdict.NotALine n) = (n ≡ length log) × IsNoLine m line (length log)
IsWrongBehind m log line (verdict.NotNow n) = (n ≡ length log) × ComesAtNoTime m log line
IsWrongBehind m log line (verdict.Full n) = (n ≡ length log) × ComesTooLate m log line
IsWrongBehind m log line (verdict.OtherReply n answer) = (n ≡ length log) × IsAnsweredOtherwise m log line answer

-- The first line is to be an opening, and each other a step behind a legal log.
abbrev pub IsWrongNext : Model → List Entry → List ℕ → Verdict → Type 0
IsWrongNext m log line v = ((log ≡ []) × (v ≡ verdict.NotALine 0) × IsNoLine m line 0) ⊎ (Legal m log × IsWrongBehind m log line v)

-- The last line is wrong, and those before it are the lines of a log that is legal, or empty.
pub record IsWrongAtLast (m : Model) (lines : List (List ℕ)) (v : Verdict) : Type 0 where
  pub log : List Entry
  pub line : List ℕ
  pub shows : lines ≡ lines_from m 0 log ++ line ∷ []
  pub wrong : IsWrongNext m log line v

-- ---- one line

-- the options of an opening
abbrev pub Opens : Model → List ℕ → Option Options → Type 0
Opens m line None = IsNoLine m line 0
Opens m line (Some o) = IsLineOf m line 0 (opening o)

-- the entry of a line that has this number
abbrev pub ReadsAt : Model → ℕ → List ℕ → Option Entry → Type 0
ReadsAt m n line None = IsNoLine m line n
ReadsAt m n line (Some e) = IsLineOf m line n e

-- whether the entry has the line, and else that its reply is another
abbrev pub Differs : Model → ℕ → Entry → List ℕ → Option Verdict → Type 0
Differs m n e line None = line ≡ text_of m n e
Differs m n e line (Some v) = (v ≡ verdict.OtherReply n e.reply) × (line ≢ text_of m n e)

-- The machine made the event of the line, and the entry that it appended has this line.
pub record GoesOn (old : State) (line : List ℕ) (new : State) : Type 0 where
  pub entry : Entry
  pub shows : line ≡ text_of old.model (length old.log) entry
  pub log : new.log ≡ old.log ++ entry ∷ []
  pub unspoiled : new.spoiled ≡ false
  pub model : new.model ≡ old.model

abbrev pub JudgesLine : State → List ℕ → Option Verdict → State → Type 0
JudgesLine old line None new = GoesOn old line new
JudgesLine old line (Some v) new = IsWrongBehind old.model old.log line v
