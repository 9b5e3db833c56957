-- Telemetry lines: `TIMELINE VALUE`.
use Rattle.std.specs.Prelude.{ℕ, pos, nat_le, List, [], ◌∷◌, Option, Some, None, if◌then◌else◌, Ok, Err}
use Rattle.pl_text.specs.declared.token.Token.{Token}
use Rattle.pl_text.specs.declared.token.TokenKind.{TokenKind}
use Rattle.pl_text.specs.declared.token.TokenKind.TheVariants as kind
use Rattle.pl_text.specs.Tokens.{token_text}
use Rattle.pl_model.specs.declared.timelines.Timeline.{Timeline}
use Rattle.pl_model.specs.declared.timelines.Timeline.TheVariants as timeline
use Rattle.pl_model.specs.declared.whole.Model.{Model}
use Rattle.pl_msg.specs.declared.fault.ParseFault.TheVariants as fault
use Rattle.pl_msg.specs.declared.message.Message.{Message}
use Rattle.pl_msg.specs.declared.message.Message.TheVariants as message
use Rattle.pl_msg.specs.declared.telemetry.Value.{Value}
use Rattle.pl_msg.specs.declared.telemetry.Value.TheVariants as said
use Rattle.pl_lists.specs.Judgements.{◌>>=◌}
use Rattle.pl_msg.specs.Reads.{Read}
use Rattle.pl_msg.specs.Words.{name_in}
use Rattle.pl_msg.specs.Names.{timeline_named, state_named}

-- a number or a name
abbrev pub value_by : List ℕ → Token → TokenKind → Read Value
value_by line t kind.Name = name_in line t >>= λ name. Ok (said.Name name)
value_by line t (kind.Number n) = Ok (said.Number n)
value_by line t (kind.Symbol b) = Err fault.BadLine

-- of a level: a number up to 1,000,000,000,000
abbrev pub level_by : ℕ → Value → Read Message
level_by number (said.Number n) = if nat_le n 1000000000000 then Ok (message.TeleLevel number (pos n)) else Err fault.OutOfRange
level_by number (said.Name name) = Err fault.OutOfRange

abbrev pub state_with : ℕ → Option ℕ → Read Message
state_with number None = Err fault.UnknownName
state_with number (Some state) = Ok (message.TeleState number state)

-- of a state timeline: one of its states
abbrev pub state_by : ℕ → List (List ℕ) → List ℕ → Value → Read Message
state_by number states line (said.Number n) = Err fault.UnknownName
state_by number states line (said.Name name) = state_with number (state_named states (token_text line name))

abbrev pub told_by : List ℕ → Value → Option (ℕ × Timeline) → Read Message
told_by line value None = Err fault.UnknownName
told_by line value (Some (number, timeline.Capacity name most)) = Err fault.UnknownName
told_by line value (Some (number, timeline.Level name least most start)) = level_by number value
told_by line value (Some (number, timeline.States name states start any steps)) = state_by number states line value

-- telemetry: the form, then the name, then the value
unfoldable pub telemetry_in : Model → List ℕ → List Token → Read Message
telemetry_in model line (timeline ∷ value ∷ []) = name_in line timeline >>= λ t. value_by line value value.kind >>= λ v. told_by line v (timeline_named model (token_text line t))
telemetry_in model line _ = Err fault.BadLine
