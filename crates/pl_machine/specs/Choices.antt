-- What the executive does next.
use Rattle.std.specs.Prelude.{length, not, ◌&&◌, ◌||◌, nat_lt, if◌then◌else◌, Option, Some, None}
use Rattle.pl_entry.specs.declared.event.Event.{Event}
use Rattle.pl_entry.specs.declared.event.Event.TheVariants as event
use Rattle.pl_machine.specs.declared.choice.Choice.{Choice}
use Rattle.pl_machine.specs.declared.choice.Choice.TheVariants as choice
use Rattle.pl_machine.specs.World.{World, due_in}
use Rattle.pl_machine.specs.Step.{behind_of, target_in, best_in}

-- The first that applies: send what is due; commit to the target where repair is not over and no commit was held; commit as
-- far as no conflict stands before, once repair rests; close, once repair rests.
unfoldable pub exec_choice_of : World → Option Choice
exec_choice_of w =
    if w.closed || w.done then None
    else if nat_lt (length w.dispatched) (length (due_in w.state)) then Some choice.Dispatch
    else if not w.rested && (not w.held && nat_lt (behind_of w.state) (target_in w)) then Some (choice.Commit (target_in w))
    else if w.rested && nat_lt (behind_of w.state) (best_in w) then Some (choice.Commit (best_in w))
    else if w.rested then Some choice.Close
    else None

abbrev pub event_of : Choice → Event
event_of choice.Dispatch = event.Dispatch
event_of (choice.Commit h) = event.Commit h
event_of choice.Close = event.Close
