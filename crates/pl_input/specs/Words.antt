-- Lines of the input, by their tokens.
use Rattle.std.specs.Prelude.{ℕ, List, [], ◌∷◌, ◌++◌, Bool, true, false, not, ◌||◌, ◌==◌, if◌then◌else◌, Option, Some, None, Result, Ok, codes}
use Rattle.std.specs.List.{list_all, take_while}
use Rattle.pl_io.specs.Lines.{lines_of, with_newline}
use Rattle.pl_text.specs.declared.token.Token.{Token}
use Rattle.pl_text.specs.declared.fault.TextFault.{TextFault}
use Rattle.pl_text.specs.Tokens.{tokens_of}
use Rattle.pl_msg.specs.Words.{says}

abbrev pub is_only : List ℕ → List ℕ → Result (List Token) TextFault → Bool
is_only word line (Ok (t ∷ [])) = says line t word
is_only word line _ = false

-- whether the only token of a line is this word
unfoldable pub is_line_of : List ℕ → List ℕ → Bool
is_line_of word line = is_only word line (tokens_of line)

abbrev pub begin_word : List ℕ
begin_word = codes "begin"

abbrev pub end_word : List ℕ
end_word = codes "end"

-- a space, a tab or a carriage return
abbrev pub is_space : ℕ → Bool
is_space b = (b == 32) || ((b == 9) || (b == 13))

-- whether every byte before the first `#` is a space, a tab or a carriage return
unfoldable pub is_blank_line : List ℕ → Bool
is_blank_line line = list_all is_space (take_while (λ b. not (b == 35)) line)

-- ---- the parts of an input

-- the lines up to but not with the first `begin` line, each with its newline, where there is one
abbrev pub text_before : List ℕ → Bool → Option (List ℕ) → Option (List ℕ)
text_before line true rest = Some []
text_before line false None = None
text_before line false (Some text) = Some (with_newline line ++ text)

abbrev pub model_text_of : List (List ℕ) → Option (List ℕ)
model_text_of [] = None
model_text_of (line ∷ lines) = text_before line (is_line_of begin_word line) (model_text_of lines)

-- the lines behind the first `begin` line
abbrev pub lines_behind : List (List ℕ) → List (List ℕ)
lines_behind [] = []
lines_behind (line ∷ lines) = if is_line_of begin_word line then lines else lines_behind lines

-- What the messages are: each line that isn't blank, up to and with the first `end` line. Where there is none, the end of
-- the input is the last one.
abbrev pub messages_from : Bool → Bool → List ℕ → List (Option (List ℕ)) → List (Option (List ℕ))
messages_from true ends line rest = rest
messages_from false true line rest = Some line ∷ []
messages_from false false line rest = Some line ∷ rest

unfoldable pub messages_of : List (List ℕ) → List (Option (List ℕ))
messages_of [] = None ∷ []
messages_of (line ∷ lines) = messages_from (is_blank_line line) (is_line_of end_word line) line (messages_of lines)

-- an input: the model's text, where it has one, and the messages behind it
pub record Split : Type 0 where
  pub text : Option (List ℕ)
  pub messages : List (Option (List ℕ))

abbrev pub split_of : List ℕ → Split
split_of input = record { text = model_text_of (lines_of input); messages = messages_of (lines_behind (lines_of input)) }
