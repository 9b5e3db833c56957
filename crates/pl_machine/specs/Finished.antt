-- What it means that a log has answered a whole input.
use Rattle.std.specs.Prelude.{◌≡◌, ℕ, List, true, Option, Some, None}
use Rattle.std.specs.List.{filter_map}
use Rattle.pl_model.specs.declared.whole.Model.{Model}
use Rattle.pl_entry.specs.declared.event.Event.{Event}
use Rattle.pl_entry.specs.declared.event.Event.TheVariants as event
use Rattle.pl_entry.specs.declared.entry.Entry.{Entry}
use Rattle.pl_machine.specs.Legal.{Legal, world_of}
use Rattle.pl_input.specs.Words.{split_of}

abbrev pub input_in : Event → Option (Option (List ℕ))
input_in (event.Opened o) = None
input_in (event.Input line) = Some line
input_in (event.Fix k m) = None
input_in event.Rest = None
input_in (event.Commit h) = None
input_in event.Dispatch = None
input_in event.Close = None

-- the inputs of a log, in order
abbrev pub inputs_of : List Entry → List (Option (List ℕ))
inputs_of log = filter_map (λ e. input_in e.event) log

-- a legal log that is done, and whose inputs are the messages of the input, each once and in order
pub record Finished (m : Model) (log : List Entry) (input : List ℕ) : Type 0 where
  pub legal : Legal m log
  pub done : (world_of m log).done ≡ true
  pub inputs : inputs_of log ≡ (split_of input).messages
