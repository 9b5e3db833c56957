-- Which lines a journal may have.
use Rattle.std.specs.Prelude.{◌≡◌, ℕ, ◌<◌, ◌^◌, List}
use Rattle.pl_model.specs.declared.whole.Model.{Model}
use Rattle.pl_entry.specs.declared.entry.Entry.{Entry}
use Rattle.pl_entry.specs.Bounds.{IsJournalEntry}
use Rattle.pl_journal.specs.Rendering.Lines.{text_of}

-- the line, without its newline, is that of an entry that may stand in a journal under this number
pub record IsLineOf (model : Model) (line : List ℕ) (number : ℕ) (e : Entry) : Type 0 where
  pub small : number < 2 ^ 32
  pub entry : IsJournalEntry model number e
  pub text : line ≡ text_of model number e
