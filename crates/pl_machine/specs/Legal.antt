-- Legal logs, and the world after one.
use Rattle.std.specs.Prelude.{◌≡◌, ◌≤◌, ◌+◌, List, [], ◌∷◌, length, true, Option, Some, None, unwrap_or}
use Rattle.pl_model.specs.declared.whole.Model.{Model}
use Rattle.pl_facts.specs.declared.options.Options.{Options}
use Rattle.pl_entry.specs.declared.event.Event.{Event}
use Rattle.pl_entry.specs.declared.event.Event.TheVariants as event
use Rattle.pl_entry.specs.declared.reply.Reply.{Reply}
use Rattle.pl_entry.specs.declared.reply.Reply.TheVariants as reply
use Rattle.pl_entry.specs.declared.entry.Entry.{Entry}
use Rattle.pl_entry.specs.Bounds.{AreOptions, IsEventInRange, IsReplyTo}
use Rattle.pl_machine.specs.World.{World, fresh_world}
use Rattle.pl_machine.specs.Step.{is_enabled, reply_of, after}

-- Its numbers are within their bounds, and it is a step of the world before it.
pub record MayFollow (w : World) (e : Entry) : Type 0 where
  pub event : IsEventInRange w.state.model e.event
  pub reply : IsReplyTo w.state.model e.event e.reply
  pub enabled : is_enabled w e.event ≡ true
  pub answers : e.reply ≡ reply_of w e.event

-- each entry is a step of the world before it
abbrev pub legal_from : World → List Entry → Type 0
legal_from w [] = Unit {0}
legal_from w (e ∷ es) = MayFollow w e × legal_from (after w e.event) es

abbrev pub world_from : World → List Entry → World
world_from w [] = w
world_from w (e ∷ es) = world_from (after w e.event) es

abbrev pub opening : Options → Entry
opening o = record { event = event.Opened o; reply = reply.Done }

-- the rest of a log that was opened with these options
pub record IsRun (m : Model) (o : Options) (answer : Reply) (entries : List Entry) : Type 0 where
  pub answers : answer ≡ reply.Done
  pub options : AreOptions o
  pub steps : legal_from (fresh_world m o) entries
  pub bounded : length entries + 1 ≤ o.entries

-- the options with which a log was opened, where it was
abbrev pub options_in : Event → Option Options
options_in (event.Opened o) = Some o
options_in (event.Input line) = None
options_in (event.Fix k move) = None
options_in event.Rest = None
options_in (event.Commit h) = None
options_in event.Dispatch = None
options_in event.Close = None

abbrev pub IsOpenedRun : Model → Option Options → Reply → List Entry → Type 0
IsOpenedRun m None answer entries = ⊥
IsOpenedRun m (Some o) answer entries = IsRun m o answer entries

-- A legal log of a model: the open entry, then steps, and no more entries than its options allow.
abbrev pub Legal : Model → List Entry → Type 0
Legal m [] = ⊥
Legal m (first ∷ entries) = IsOpenedRun m (options_in first.event) first.reply entries

abbrev pub no_options : Options
no_options = record { turns = 0; live = 0; goals = 0; entries = 0 }

abbrev pub options_of : List Entry → Options
options_of [] = no_options
options_of (first ∷ entries) = unwrap_or (options_in first.event) no_options

abbrev pub entries_behind : List Entry → List Entry
entries_behind [] = []
entries_behind (first ∷ entries) = entries

-- the world after a log that was opened
unfoldable pub world_of : Model → List Entry → World
world_of m log = world_from (fresh_world m (options_of log)) (entries_behind log)

-- The log is a legal one of the model, and the world is the one after it.
pub record IsHistory (m : Model) (log : List Entry) (w : World) : Type 0 where
  pub legal : Legal m log
  pub world : w ≡ world_of m log
  pub options : options_of log ≡ w.options
