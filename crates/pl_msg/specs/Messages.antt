-- The message of a line, or its first fault: `goal NUMBER KIND EARLIEST LATEST must` or `may` with presets `NAME = VALUE`,
-- `tele TIMELINE VALUE`, `tick MOMENT`, `until ID MOMENT`, `halt` or `end`. First the form is looked at, then the names, then the ranges.
use Rattle.std.specs.Prelude.{ℕ, nat_le, List, [], ◌∷◌, if◌then◌else◌, codes, Ok, Err}
use Rattle.pl_text.specs.declared.token.Token.{Token}
use Rattle.pl_model.specs.declared.whole.Model.{Model}
use Rattle.pl_msg.specs.declared.fault.ParseFault.TheVariants as fault
use Rattle.pl_msg.specs.declared.message.Message.{Message}
use Rattle.pl_msg.specs.declared.message.Message.TheVariants as message
use Rattle.pl_lists.specs.Judgements.{◌>>=◌}
use Rattle.pl_msg.specs.Reads.{Read}
use Rattle.pl_msg.specs.Words.{says, number_in, tokens_in}
use Rattle.pl_msg.specs.Goals.{goal_in}
use Rattle.pl_msg.specs.Telemetry.{telemetry_in}

abbrev pub tick_in : List Token → Read Message
tick_in (moment ∷ []) = number_in moment.kind >>= λ n. Ok (message.Tick n)
tick_in _ = Err fault.BadLine

-- The activity of this id ends at the moment: at most the horizon, whatever the id is.
abbrev pub ended_by : ℕ → ℕ → ℕ → Read Message
ended_by horizon id moment = if nat_le moment horizon then Ok (message.Until id moment) else Err fault.OutOfRange

abbrev pub until_in : Model → List Token → Read Message
until_in model (id ∷ moment ∷ []) = number_in id.kind >>= λ i. number_in moment.kind >>= λ m. ended_by model.horizon i m
until_in model _ = Err fault.BadLine

abbrev pub halt_in : List Token → Read Message
halt_in [] = Ok message.Halt
halt_in _ = Err fault.BadLine

abbrev pub end_in : List Token → Read Message
end_in [] = Ok message.End
end_in _ = Err fault.BadLine

-- by the first word
unfoldable pub said_in : Model → List ℕ → List Token → Read Message
said_in model line [] = Err fault.BadLine
said_in model line (word ∷ tokens) =
    if says line word (codes "goal") then (goal_in model line tokens >>= λ goal. Ok (message.Goal goal))
    else if says line word (codes "tele") then telemetry_in model line tokens
    else if says line word (codes "tick") then tick_in tokens
    else if says line word (codes "until") then until_in model tokens
    else if says line word (codes "halt") then halt_in tokens
    else if says line word (codes "end") then end_in tokens
    else Err fault.BadLine

unfoldable pub message_of : Model → List ℕ → Read Message
message_of model line = tokens_in line >>= said_in model line
