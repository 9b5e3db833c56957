-- The activities whose commands a log sends.
use Rattle.std.specs.Prelude.{ℕ, List, [], ◌∷◌, flat_map}
use Rattle.pl_entry.specs.declared.event.Event.{Event}
use Rattle.pl_entry.specs.declared.event.Event.TheVariants as event
use Rattle.pl_entry.specs.declared.reply.Reply.{Reply}
use Rattle.pl_entry.specs.declared.reply.Reply.TheVariants as reply
use Rattle.pl_entry.specs.declared.entry.Entry.{Entry}

-- the id in a command
abbrev pub sent_in : Reply → List ℕ
sent_in (reply.Sent id kind start values) = id ∷ []
sent_in _ = []

abbrev pub sent_by : Event → Reply → List ℕ
sent_by event.Dispatch answer = sent_in answer
sent_by _ answer = []

-- the ids in the commands of the dispatches, one after another
abbrev pub sent_ids : List Entry → List ℕ
sent_ids log = flat_map (λ e. sent_by e.event e.reply) log
