-- What an input holds, whether or not it was read, and what is to be answered of it.
use Rattle.std.specs.Prelude.{◌≡◌, ℕ, List, [], Option, Result, Ok, Err, ◌⊎◌}
use Rattle.pl_model.specs.declared.whole.Model.{Model}
use Rattle.pl_entry.specs.declared.entry.Entry.{Entry}
use Rattle.pl_io.specs.declared.errors.LineFault.{LineFault}
use Rattle.pl_io.specs.declared.errors.LineFault.TheVariants as fault
use Rattle.pl_io.specs.Reader.{Reader}
use Rattle.pl_machine.specs.Sound.{State}
use Rattle.pl_replay.specs.declared.verdict.Verdict.{Verdict}
use Rattle.pl_input.specs.Reads.{GivesLines}
use Rattle.pl_replay.specs.Journals.{entry_lines, IsJournalOf, IsWrongAtLast}

-- The bytes are lines within the reader's limits. Those that are not blank are those of this legal log.
pub record HoldsLegal (m : Model) (reader : Reader) (bytes : List ℕ) (log : List Entry) : Type 0 where
  pub lines : List (List ℕ)
  pub left : ℕ
  pub all : GivesLines reader.limit reader.room bytes lines left []
  pub journal : IsJournalOf m (entry_lines lines) log

-- The bytes begin with lines within the reader's limits. Of those that are not blank the last is the first wrong entry, with this verdict.
pub record HoldsWrong (m : Model) (reader : Reader) (bytes : List ℕ) (v : Verdict) : Type 0 where
  pub lines : List (List ℕ)
  pub left : ℕ
  pub rest : List ℕ
  pub front : GivesLines reader.limit reader.room bytes lines left rest
  pub wrong : IsWrongAtLast m (entry_lines lines) v

-- The bytes are lines within the reader's limits, and each is blank.
pub record HoldsNothing (reader : Reader) (bytes : List ℕ) : Type 0 where
  pub lines : List (List ℕ)
  pub left : ℕ
  pub all : GivesLines reader.limit reader.room bytes lines left []
  pub none : entry_lines lines ≡ []

-- This verdict and this machine, where no read failed and memory was not wanting.
abbrev pub Tells : Result (Verdict × Option State) LineFault → Verdict → Option State → Type 0
Tells (Ok judged) v machine = (judged.0 ≡ v) × (judged.1 ≡ machine)
Tells (Err f) v machine = (f ≡ fault.Read) ⊎ (f ≡ fault.Memory)
