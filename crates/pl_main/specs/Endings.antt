-- How a run of the program ends. Every kind of run ends in the same ways: kinds of run differ only in what they say of their logs.
use Rattle.std.specs.Prelude.{◌≡◌, ◌<◌, ℕ, ◌⊎◌, List, [], ◌∷◌, ◌++◌, length, true, false, Option, Some, None, Result, Ok, Err, ⊤}
use Rattle.pl_io.specs.Writes.{AppendsFront}
use Rattle.pl_model.specs.declared.whole.Model.{Model}
use Rattle.pl_entry.specs.declared.entry.Entry.{Entry}
use Rattle.pl_input.specs.Words.{model_text_of, lines_behind, messages_of, split_of}
use Rattle.pl_machine.specs.Legal.{world_of}
use Rattle.pl_machine.specs.Finished.{inputs_of, Finished}
use Rattle.pl_journal.specs.Rendering.Lines.{text_of_log}
use Rattle.pl_check.specs.Accepting.{IsModelText}
use Rattle.pl_input.specs.declared.halt.Halt.{Halt}
use Rattle.pl_input.specs.declared.halt.Halt.TheVariants as halt
use Rattle.pl_main.specs.declared.outcome.Outcome.{Outcome}
use Rattle.pl_main.specs.declared.outcome.Outcome.TheVariants as outcome
use Rattle.pl_input.specs.Reads.{GivesLines}
use Rattle.pl_input.specs.Stops.{IsStuck}
use Rattle.pl_driver.specs.CutShort.{IsCutShort}
use Rattle.pl_journal.specs.Written.{Adds}
use Rattle.pl_main.specs.Top.{line_limit, total_limit, HasRead, ShowsNoLine, ShowsLimit, IsNoModel}

-- A kind of run: what it says of its log over a model at every moment, what it says of the log of a run that is done, which
-- lines stand behind the journal of such a run, and how far the input was read where all of a log's journal had been written when
-- memory ran out.
pub record RunKind : Type 1 where
  pub log : Model → List Entry → Type 0
  pub done_log : Model → List Entry → Type 0
  pub tail : (m : Model) (log : List Entry) → done_log m log → List ℕ
  pub pause : (words : List ℕ) → Model → List Entry → (unanswered : List (Option (List ℕ))) → (input : List ℕ) → (source_left : Option (List ℕ)) → Type 0

-- the text of a log, and these lines behind it
abbrev pub text_with : List ℕ → Model → List Entry → List ℕ
text_with [] m log = text_of_log m log
text_with (x ∷ xs) m log = text_of_log m log ++ (x ∷ xs)

-- The run is done: what was written is the journal of a finished log of the input, with the lines behind it.
pub record IsDone (kind : RunKind) (input : List ℕ) (source_left held now : Option (List ℕ)) : Type 0 where
  pub model : Model
  pub log : List Entry
  pub words : List ℕ
  pub text : (split_of input).text ≡ Some words
  pub accepted : IsModelText words model
  pub finished : Finished model log input
  pub closed : (world_of model log).closed ≡ true
  pub says : kind.done_log model log
  pub read : HasRead words (inputs_of log) input source_left
  pub written : Adds held now (text_with (kind.tail model log says) model log)

-- A run that is done, of which the whole journal was written, and of the lines behind it a front and not all.
pub record IsToldInPart (kind : RunKind) (input : List ℕ) (source_left held now : Option (List ℕ)) : Type 0 where
  pub done : IsDone kind input source_left None None
  pub some : 0 < length (kind.tail done.model done.log done.says)
  pub journal : Option (List ℕ)
  pub written : Adds held journal (text_of_log done.model done.log)
  pub told : AppendsFront journal now (kind.tail done.model done.log done.says)

-- A log of the run that answers the messages among these lines and waits for the next message. Its journal was written.
pub record WaitsBehind (kind : RunKind) (lines : List (List ℕ)) (held now : Option (List ℕ)) : Type 0 where
  pub model : Model
  pub log : List Entry
  pub words : List ℕ
  pub text : model_text_of lines ≡ Some words
  pub accepted : IsModelText words model
  pub says : kind.log model log
  pub messages : messages_of (lines_behind lines) ≡ inputs_of log ++ None ∷ []
  pub closed : (world_of model log).closed ≡ true
  pub going : (world_of model log).done ≡ false
  pub written : Adds held now (text_of_log model log)

-- The line asked for is too long, or the input is: behind these lines, while the model's text was read or a message was due.
-- The bytes that came behind them show it, and none is lost.
pub record IsPastLimit (kind : RunKind) (input : List ℕ) (source_left held now : Option (List ℕ)) : Type 0 where
  pub lines : List (List ℕ)
  pub left : ℕ
  pub rest : List ℕ
  pub gave : GivesLines line_limit total_limit input lines left rest
  pub why : IsStuck line_limit left rest
  pub source : ShowsLimit line_limit left rest source_left
  pub asked : ((model_text_of lines ≡ None) × (now ≡ held)) ⊎ WaitsBehind kind lines held now

-- A read failed: behind these lines, while the model's text was read or a message was due. The source had shown no further
-- line.
pub record IsReadFault (kind : RunKind) (input : List ℕ) (source_left held now : Option (List ℕ)) : Type 0 where
  pub lines : List (List ℕ)
  pub left : ℕ
  pub rest : List ℕ
  pub gave : GivesLines line_limit total_limit input lines left rest
  pub source : ShowsNoLine line_limit left rest source_left
  pub asked : ((model_text_of lines ≡ None) × (now ≡ held)) ⊎ WaitsBehind kind lines held now

-- The log answers the messages up to a place. It has as many entries as it may, and one more is due: within a round, and
-- then no further message was read, or between rounds for the one message that was read behind them.
pub record IsFull (kind : RunKind) (input : List ℕ) (source_left held now : Option (List ℕ)) : Type 0 where
  pub model : Model
  pub log : List Entry
  pub words : List ℕ
  pub text : (split_of input).text ≡ Some words
  pub accepted : IsModelText words model
  pub says : kind.log model log
  pub unanswered : List (Option (List ℕ))
  pub messages : (split_of input).messages ≡ inputs_of log ++ unanswered
  pub full : length log ≡ 250000
  pub going : (world_of model log).done ≡ false
  pub pending : List (Option (List ℕ))
  pub read : HasRead words (inputs_of log ++ pending) input source_left
  pub due : (((world_of model log).closed ≡ false) × (pending ≡ []))
      ⊎ (((world_of model log).closed ≡ true) × ((next : Option (List ℕ)) × ((pending ≡ next ∷ []) × ((more : List (Option (List ℕ))) × (unanswered ≡ next ∷ more)))))
  pub written : Adds held now (text_of_log model log)

-- A log of the run over the input's model, whose inputs are the first messages of the input.
pub record HasBegun (kind : RunKind) (input : List ℕ) : Type 0 where
  pub model : Model
  pub log : List Entry
  pub words : List ℕ
  pub text : (split_of input).text ≡ Some words
  pub accepted : IsModelText words model
  pub says : kind.log model log
  pub unanswered : List (Option (List ℕ))
  pub messages : (split_of input).messages ≡ inputs_of log ++ unanswered

-- A write failed. What went out is a front of such a log's journal, and not all of it, but all of the rounds before the last
-- message, and then the last line that was asked for is this message; or it is a front of the line that refuses the model; or the
-- run is done, and the lines behind its journal were written in part.
pub data IsShort (kind : RunKind) (input : List ℕ) (source_left held now : Option (List ℕ)) : Type 0 where
  in_journal : (run : HasBegun kind input) → HasRead run.words (inputs_of run.log) input source_left
      → IsCutShort run.model run.log held now → IsShort kind input source_left held now
  in_refusal : (line : List ℕ) → IsNoModel line_limit input source_left (Some []) (Some line)
      → AppendsFront held now line → IsShort kind input source_left held now
  in_tail : IsToldInPart kind input source_left held now → IsShort kind input source_left held now

-- Memory ran out. Nothing went out; or a front of such a log's journal, and not all of it, but all of the rounds before the
-- last message, and then the last line that was asked for is this message; or all of it, the run not ended, and then the kind of
-- run says how far the input was read; or the run is done, and the lines behind its journal were written in part.
pub data IsOutOfMemory (kind : RunKind) (input : List ℕ) (source_left held now : Option (List ℕ)) : Type 0 where
  nothing : now ≡ held → IsOutOfMemory kind input source_left held now
  in_entry : (run : HasBegun kind input) → HasRead run.words (inputs_of run.log) input source_left
      → IsCutShort run.model run.log held now → IsOutOfMemory kind input source_left held now
  behind_entry : (run : HasBegun kind input) → kind.pause run.words run.model run.log run.unanswered input source_left
      → (world_of run.model run.log).done ≡ false → Adds held now (text_of_log run.model run.log)
      → IsOutOfMemory kind input source_left held now
  behind_journal : IsToldInPart kind input source_left held now → IsOutOfMemory kind input source_left held now

-- how a run ended, where the input's bytes are known
abbrev pub EndedAs : RunKind → List ℕ → (source_left held now : Option (List ℕ)) → Result Outcome Halt → Type 0
EndedAs kind input source_left held now (Ok outcome.Done) = IsDone kind input source_left held now
EndedAs kind input source_left held now (Ok outcome.Refused) = IsNoModel line_limit input source_left held now
EndedAs kind input source_left held now (Err halt.Limit) = IsPastLimit kind input source_left held now
EndedAs kind input source_left held now (Err halt.Full) = IsFull kind input source_left held now
EndedAs kind input source_left held now (Err halt.Read) = IsReadFault kind input source_left held now
EndedAs kind input source_left held now (Err halt.Write) = IsShort kind input source_left held now
EndedAs kind input source_left held now (Err halt.Memory) = IsOutOfMemory kind input source_left held now

abbrev pub EndedAsKnown : RunKind → (input source_left held now : Option (List ℕ)) → Result Outcome Halt → Type 0
EndedAsKnown kind None source_left held now r = ⊤
EndedAsKnown kind (Some input) source_left held now r = EndedAs kind input source_left held now r
