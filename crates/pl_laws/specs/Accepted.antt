-- The messages that were accepted in a log.
use Rattle.std.specs.Prelude.{ℕ, ◌==◌, if◌then◌else◌, List, Option, Some, None, Ok, Err, Contains}
use Rattle.std.specs.List.{filter_map}
use Rattle.pl_model.specs.declared.whole.Model.{Model}
use Rattle.pl_msg.specs.declared.message.Message.{Message}
use Rattle.pl_msg.specs.declared.message.Message.TheVariants as message
use Rattle.pl_msg.specs.Reads.{Read}
use Rattle.pl_msg.specs.Messages.{message_of}
use Rattle.pl_entry.specs.declared.event.Event.{Event}
use Rattle.pl_entry.specs.declared.event.Event.TheVariants as event
use Rattle.pl_entry.specs.declared.reply.Reply.{Reply}
use Rattle.pl_entry.specs.declared.reply.Reply.TheVariants as reply
use Rattle.pl_entry.specs.declared.entry.Entry.{Entry}

abbrev pub message_in : Read Message → Option Message
message_in (Ok m) = Some m
message_in (Err fault) = None

-- the message of a line to which this is the reply, where the reply is `ok`
abbrev pub line_accepted : Model → List ℕ → Reply → Option Message
line_accepted model line reply.Done = message_in (message_of model line)
line_accepted model line _ = None

abbrev pub input_accepted : Model → Option (List ℕ) → Reply → Option Message
input_accepted model None answer = None
input_accepted model (Some line) answer = line_accepted model line answer

-- the message that was accepted, where the event is one
abbrev pub accepted : Model → Event → Reply → Option Message
accepted model (event.Opened o) answer = None
accepted model (event.Input line) answer = input_accepted model line answer
accepted model (event.Fix k mv) answer = None
accepted model event.Rest answer = None
accepted model (event.Commit h) answer = None
accepted model event.Dispatch answer = None
accepted model event.Close answer = None

-- the messages that were accepted, in the order of their entries
abbrev pub accepted_of : Model → List Entry → List Message
accepted_of model es = filter_map (λ e. accepted model e.event e.reply) es

-- none of them is `halt`
abbrev pub NoneHalts : List Message → Type 0
NoneHalts messages = Contains messages message.Halt → ⊥

-- the moment at which the message says that the activity of this id ends, where it is such an `until`
abbrev pub end_told : ℕ → Message → Option ℕ
end_told id (message.Goal g) = None
end_told id (message.TeleLevel line value) = None
end_told id (message.TeleState line state) = None
end_told id (message.Tick moment) = None
end_told id (message.Until of moment) = if of == id then Some moment else None
end_told id message.Halt = None
end_told id message.End = None

-- the moments at which the messages say that the activity of this id ends, in their order
abbrev pub ends_told : ℕ → List Message → List ℕ
ends_told id messages = filter_map (end_told id) messages
