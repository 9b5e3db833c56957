-- How much of a journal was written where a write stopped it.
use Rattle.std.specs.Prelude.{◌≡◌, ℕ, ◌<◌, List, [], ◌∷◌, ◌++◌, length, true, Option}
use Rattle.pl_io.specs.Writes.{AppendsFront}
use Rattle.pl_model.specs.declared.whole.Model.{Model}
use Rattle.pl_entry.specs.declared.entry.Entry.{Entry}
use Rattle.pl_machine.specs.Legal.{world_of}
use Rattle.pl_machine.specs.Finished.{inputs_of}
use Rattle.pl_journal.specs.Rendering.Lines.{text_from, text_of_log}
use Rattle.pl_journal.specs.Written.{Adds}

-- What a log has behind these entries: the open entry alone, or, behind a closed round, the entries of one message.
pub data IsLastRound (m : Model) (earlier last : List Entry) : Type 0 where
  opens : earlier ≡ [] → inputs_of last ≡ [] → IsLastRound m earlier last
  answers : (message : Option (List ℕ)) → 0 < length earlier → (world_of m earlier).closed ≡ true
      → inputs_of last ≡ message ∷ [] → IsLastRound m earlier last

-- The journal of a log was cut short: a front of its text was written, and not all of it. Where the sink tells its bytes, all
-- lines up to the last message's were written, and of those behind them a front, and not all. So what came before a message
-- was written when the message was read.
pub record IsCutShort (m : Model) (log : List Entry) (held now : Option (List ℕ)) : Type 0 where
  pub earlier : List Entry
  pub last : List Entry
  pub parts : log ≡ earlier ++ last
  pub round : IsLastRound m earlier last
  pub written : Option (List ℕ)
  pub whole : Adds held written (text_of_log m earlier)
  pub part : AppendsFront written now (text_from m (length earlier) last)
  pub front : AppendsFront held now (text_of_log m log)
