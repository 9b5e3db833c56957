-- What a machine is seen as, and what stands of it at all times.
use Rattle.std.specs.Prelude.{◌≡◌, ℕ, ◌≤◌, ◌*◌, List, length, Bool, false}
use Rattle.pl_model.specs.declared.whole.Model.{Model}
use Rattle.pl_model.specs.Checked.{IsChecked}
use Rattle.pl_entry.specs.declared.entry.Entry.{Entry}
use Rattle.pl_entry.specs.Bounds.{AreOptions}
use Rattle.pl_machine.specs.World.{World, due_in}
use Rattle.pl_machine.specs.declared.ahead.Ahead.{Ahead}
use Rattle.pl_machine.specs.declared.id_range.IdRange.{IdRange}
use Rattle.pl_machine.specs.Calm.{IsAhead}
use Rattle.pl_machine.specs.Keeping.{AreSendable}
use Rattle.pl_machine.specs.Legal.{Legal, options_of, world_of}

-- Of a spoiled machine the plan state of the world tells nothing; all else is as the log says.
pub record State : Type 0 where
  pub spoiled : Bool
  pub model : Model
  pub log : List Entry
  pub world : World

-- The plan state is the one after the log, the kept list is what is due, what is known of the starts ahead holds, and few ids have
-- been given so far.
pub record IsStanding (m : Model) (log : List Entry) (w : World) (due : List ℕ) (ahead : Ahead) (ranges : List IdRange) : Type 0 where
  pub model : w.state.model ≡ m
  pub world : w ≡ world_of m log
  pub listed : due ≡ due_in w.state
  pub looked : IsAhead w.state ahead ranges
  pub sendable : AreSendable w.state
  pub next_id : w.state.next_id ≤ 16 * length log

-- The log is a legal one, and but for the plan state the world is the one after it. An unspoiled machine stands.
pub record IsSound (spoiled : Bool) (m : Model) (log : List Entry) (w : World) (due : List ℕ) (sent : ℕ) (ahead : Ahead) (ranges : List IdRange) : Type 0 where
  pub checked : IsChecked m
  pub legal : Legal m log
  pub options : options_of log ≡ w.options
  pub limits : AreOptions w.options
  pub others : w ≡ record (world_of m log) { state = w.state }
  pub within : sent ≤ length due
  pub turn : w.turn ≤ w.options.turns
  pub bounded : length log ≤ w.options.entries
  pub stands : spoiled ≡ false → IsStanding m log w due ahead ranges
