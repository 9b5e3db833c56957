-- The limits of the program, how far its input was read, and what the top call promises of `check`.
use Rattle.std.specs.Prelude.{◌≡◌, ℕ, ◌+◌, ◌<◌, ◌≤◌, ◌⊎◌, List, [], ◌∷◌, ◌++◌, length, false, Option, Some, None, Result, Ok, Err, codes, decimal, ⊤}
use Rattle.pl_io.specs.Lines.{ahead}
use Rattle.pl_io.specs.Reader.{Reader}
use Rattle.pl_io.specs.Sparing.{read_size, shows_next}
use Rattle.pl_io.specs.Writes.{AppendsFront}
use Rattle.pl_model.specs.declared.whole.Model.{Model}
use Rattle.pl_facts.specs.declared.options.Options.{Options}
use Rattle.pl_input.specs.Words.{model_text_of, lines_behind, messages_of, split_of}
use Rattle.pl_check.specs.Accepting.{IsModelText, IsRefusedAs}
use Rattle.pl_input.specs.declared.halt.Halt.{Halt}
use Rattle.pl_input.specs.declared.halt.Halt.TheVariants as halt
use Rattle.pl_main.specs.declared.outcome.Outcome.{Outcome}
use Rattle.pl_main.specs.declared.outcome.Outcome.TheVariants as outcome
use Rattle.pl_input.specs.Reads.{GivesLines}
use Rattle.pl_input.specs.Stops.{IsStuck}
use Rattle.pl_journal.specs.Written.{Adds}

-- the limits of the program, with the turns of the words
abbrev pub program_options : ℕ → Options
program_options turns = record { turns = turns; live = 10000; goals = 20000; entries = 250000 }

-- the most bytes of a line, and of the whole input
abbrev pub line_limit : ℕ
line_limit = 4096

abbrev pub total_limit : ℕ
total_limit = 1073741824

-- the reader that a task begins with
abbrev pub fresh_reader : ℕ → Reader
fresh_reader limit = record { held = []; limit = limit; room = total_limit; number = 0; failed = None }

-- What a source that tells its bytes has left is what stands behind the lines that were asked for, but for fewer bytes
-- than one read asks for, which came with them.
pub record IsReadTo (rest : List ℕ) (source_left : Option (List ℕ)) : Type 0 where
  pub came : List ℕ
  pub few : length came < read_size
  pub behind : ahead came source_left ≡ Some rest

-- The bytes that came behind the lines that were given show no further line: none ends among them, and no limit is passed.
-- They stand before those that the source has left.
pub record ShowsNoLine (limit left : ℕ) (rest : List ℕ) (source_left : Option (List ℕ)) : Type 0 where
  pub came : List ℕ
  pub shows : shows_next limit left came ≡ false
  pub behind : ahead came source_left ≡ Some rest

-- The bytes that came behind the lines that were given pass a limit by themselves, and are at most a line within the limit and
-- one read. They stand before those that the source has left.
pub record ShowsLimit (limit left : ℕ) (rest : List ℕ) (source_left : Option (List ℕ)) : Type 0 where
  pub came : List ℕ
  pub few : length came ≤ limit + read_size
  pub shows : IsStuck limit left came
  pub behind : ahead came source_left ≡ Some rest

-- The lines that were asked for, each within the limits: the text of a model up to a `begin` line, and behind it these
-- messages and no others. The last line is the last message. Where the last message is the end of the input, all bytes were
-- read. Where there is no message, no line was asked for behind `begin`.
pub record HasRead (words : List ℕ) (messages : List (Option (List ℕ))) (input : List ℕ)
    (source_left : Option (List ℕ)) : Type 0 where
  pub lines : List (List ℕ)
  pub left : ℕ
  pub rest : List ℕ
  pub more : List (Option (List ℕ))
  pub gave : GivesLines line_limit total_limit input lines left rest
  pub text : model_text_of lines ≡ Some words
  pub behind : messages_of (lines_behind lines) ≡ messages ++ more
  pub no_others : (more ≡ []) ⊎ (more ≡ None ∷ [])
  pub no_further : (front : List (Option (List ℕ))) (line : List ℕ) → messages ≡ front ++ Some line ∷ []
      → (before : List (List ℕ)) × (lines ≡ before ++ line ∷ [])
  pub used_up : (front : List (Option (List ℕ))) → messages ≡ front ++ None ∷ [] → rest ≡ []
  pub none : messages ≡ [] → lines_behind lines ≡ []
  pub source : IsReadTo rest source_left

-- The input begins with this text and a `begin` line. The lines up to it are within the limits, and no further line was
-- asked for.
pub record HasHead (limit : ℕ) (input words : List ℕ) (source_left : Option (List ℕ)) : Type 0 where
  pub lines : List (List ℕ)
  pub left : ℕ
  pub rest : List ℕ
  pub gave : GivesLines limit total_limit input lines left rest
  pub head : model_text_of lines ≡ Some words
  pub no_further : lines_behind lines ≡ []
  pub text : (split_of input).text ≡ Some words
  pub source : IsReadTo rest source_left

abbrev pub no_begin_line : List ℕ
no_begin_line = codes "model: no begin" ++ 10 ∷ []

-- The input begins with no model: there is no `begin` line, or the text before it has a fault, which was written. All lines, or those up to `begin`, are within the limits.
pub data IsNoModel (limit : ℕ) (input : List ℕ) (source_left held now : Option (List ℕ)) : Type 0 where
  no_begin : (lines : List (List ℕ)) (left : ℕ) → GivesLines limit total_limit input lines left []
      → (split_of input).text ≡ None → IsReadTo [] source_left → Adds held now no_begin_line
      → IsNoModel limit input source_left held now
  faulty : (words line : List ℕ) → HasHead limit input words source_left → IsRefusedAs words line
      → Adds held now line → IsNoModel limit input source_left held now

-- The lines that were given, each within the limits: the text of a model up to a `begin` line, and behind it these messages.
pub record WasGiven (words : List ℕ) (messages : List (Option (List ℕ))) (input : List ℕ) : Type 0 where
  pub lines : List (List ℕ)
  pub left : ℕ
  pub rest : List ℕ
  pub gave : GivesLines line_limit total_limit input lines left rest
  pub head : model_text_of lines ≡ Some words
  pub more : List (Option (List ℕ))
  pub behind : messages_of (lines_behind lines) ≡ messages ++ more

-- ---- `check`

abbrev pub model_ok_line : Model → List ℕ
model_ok_line m = codes "model ok: timelines " ++ (decimal (length m.timelines) ++ (codes " kinds " ++ (decimal (length m.kinds) ++ 10 ∷ [])))

-- The input begins with a model.
pub record IsFound (input : List ℕ) (source_left held now : Option (List ℕ)) : Type 0 where
  pub model : Model
  pub words : List ℕ
  pub begins : HasHead line_limit input words source_left
  pub accepted : IsModelText words model
  pub written : Adds held now (model_ok_line model)

-- The line asked for is too long, or the input is, while the model's text was read. The bytes that came behind these lines
-- show it, and none is lost.
pub record IsPastHead (limit : ℕ) (input : List ℕ) (source_left held now : Option (List ℕ)) : Type 0 where
  pub lines : List (List ℕ)
  pub left : ℕ
  pub rest : List ℕ
  pub gave : GivesLines limit total_limit input lines left rest
  pub why : IsStuck limit left rest
  pub source : ShowsLimit limit left rest source_left
  pub none : model_text_of lines ≡ None
  pub silent : now ≡ held

-- A read failed while the model's text was read. The source had shown no further line.
pub record IsHeadFault (limit : ℕ) (input : List ℕ) (source_left held now : Option (List ℕ)) : Type 0 where
  pub lines : List (List ℕ)
  pub left : ℕ
  pub rest : List ℕ
  pub gave : GivesLines limit total_limit input lines left rest
  pub source : ShowsNoLine limit left rest source_left
  pub none : model_text_of lines ≡ None
  pub silent : now ≡ held

-- A write failed. What went out is a front of the line that was due.
pub data IsCheckShort (input : List ℕ) (source_left held now : Option (List ℕ)) : Type 0 where
  of_model : (found : IsFound input source_left None None) → AppendsFront held now (model_ok_line found.model)
      → IsCheckShort input source_left held now
  of_refusal : (line : List ℕ) → IsNoModel line_limit input source_left (Some []) (Some line)
      → AppendsFront held now line → IsCheckShort input source_left held now

-- How a check ended, where the input's bytes are known.
abbrev pub Checks : List ℕ → (source_left held now : Option (List ℕ)) → Result Outcome Halt → Type 0
Checks input source_left held now (Ok outcome.Done) = IsFound input source_left held now
Checks input source_left held now (Ok outcome.Refused) = IsNoModel line_limit input source_left held now
Checks input source_left held now (Err halt.Limit) = IsPastHead line_limit input source_left held now
Checks input source_left held now (Err halt.Full) = ⊥
Checks input source_left held now (Err halt.Read) = IsHeadFault line_limit input source_left held now
Checks input source_left held now (Err halt.Write) = IsCheckShort input source_left held now
Checks input source_left held now (Err halt.Memory) = now ≡ held

abbrev pub ChecksKnown : (input source_left held now : Option (List ℕ)) → Result Outcome Halt → Type 0
ChecksKnown None source_left held now r = ⊤
ChecksKnown (Some input) source_left held now r = Checks input source_left held now r
