-- What a verification gives.
use Rattle.std.specs.Prelude.{◌≡◌, ℕ, List, [], ◌∷◌, ◌++◌, length, false, Option, Some, None, ◌⊎◌, Result, Ok, Err, ⊤}
use Rattle.pl_model.specs.declared.whole.Model.{Model}
use Rattle.pl_entry.specs.declared.entry.Entry.{Entry}
use Rattle.pl_io.specs.declared.errors.LineFault.{LineFault}
use Rattle.pl_io.specs.Reader.{Reader}
use Rattle.pl_input.specs.Words.{is_blank_line}
use Rattle.pl_machine.specs.Legal.{Legal, world_of}
use Rattle.pl_machine.specs.Sound.{State}
use Rattle.pl_replay.specs.declared.verdict.Verdict.{Verdict}
use Rattle.pl_replay.specs.declared.verdict.Verdict.TheVariants as verdict
use Rattle.pl_input.specs.Reads.{ReadsLines, Halts, IsUsedUp}
use Rattle.pl_replay.specs.Journals.{entry_lines, lines_from, IsJournalOf, IsWrongAtLast}

-- The lines are all that there are, they are those of a legal log, and the machine stands behind it.
pub record IsLegalJournal (m : Model) (lines : List (List ℕ)) (v : Verdict) (machine : State) (before after : Option (List ℕ)) : Type 0 where
  pub verdict : v ≡ verdict.Legal (length machine.log) machine.world.done
  pub journal : IsJournalOf m lines machine.log
  pub unspoiled : machine.spoiled ≡ false
  pub model : machine.model ≡ m
  pub world : machine.world ≡ world_of m machine.log
  pub used_up : IsUsedUp before after

-- There is no line at all.
pub record IsNoJournal (lines : List (List ℕ)) (v : Verdict) (before after : Option (List ℕ)) : Type 0 where
  pub verdict : v ≡ verdict.NotALine 0
  pub none : lines ≡ []
  pub used_up : IsUsedUp before after

-- The last of these lines is not blank.
pub record EndsInEntry (lines : List (List ℕ)) : Type 0 where
  pub before : List (List ℕ)
  pub line : List ℕ
  pub is : lines ≡ before ++ line ∷ []
  pub other : is_blank_line line ≡ false

-- A machine is there exactly where the journal is legal.
abbrev pub Judges : Model → List (List ℕ) → Verdict → Option State → Option (List ℕ) → Option (List ℕ) → Type 0
Judges m lines v (Some machine) before after = IsLegalJournal m lines v machine before after
Judges m lines v None before after = IsNoJournal lines v before after ⊎ IsWrongAtLast m lines v

-- Where an entry is wrong, its line is the last that was taken: nothing behind it was asked for.
abbrev pub StopsAtWrong : Option State → List (List ℕ) → Type 0
StopsAtWrong (Some machine) lines = ⊤
StopsAtWrong None lines = (entry_lines lines ≡ []) ⊎ EndsInEntry lines

pub record Verified (m : Model) (old : Reader) (before : Option (List ℕ)) (v : Verdict) (machine : Option State) (new : Reader) (after : Option (List ℕ)) : Type 0 where
  pub lines : List (List ℕ)
  pub took : ReadsLines old before lines new after
  pub judged : Judges m (entry_lines lines) v machine before after
  pub no_further : StopsAtWrong machine lines

-- The lines so far are those of this log.
pub record IsReadSoFar (m : Model) (log : List Entry) (old : Reader) (before : Option (List ℕ)) (new : Reader) (after : Option (List ℕ)) : Type 0 where
  pub lines : List (List ℕ)
  pub took : ReadsLines old before lines new after
  pub entries : entry_lines lines ≡ lines_from m 0 log

-- No line so far was wrong, and the next is not given. A want of memory may also come behind a line.
pub record Stops (m : Model) (old : Reader) (before : Option (List ℕ)) (f : LineFault) (new : Reader) (after : Option (List ℕ)) : Type 0 where
  pub log : List Entry
  pub right : (log ≡ []) ⊎ Legal m log
  pub lines : List (List ℕ)
  pub halts : Halts old before lines f new after
  pub entries : entry_lines lines ≡ lines_from m 0 log

abbrev pub Verifies : Model → Reader → Option (List ℕ) → Result (Verdict × Option State) LineFault → Reader → Option (List ℕ) → Type 0
Verifies m old before (Ok judged) new after = Verified m old before judged.0 judged.1 new after
Verifies m old before (Err f) new after = Stops m old before f new after
