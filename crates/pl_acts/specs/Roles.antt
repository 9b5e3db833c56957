-- Which entries a role makes.
use Rattle.std.specs.Prelude.{◌≡◌, ℕ, List, Bool, true, false, not, ◌&&◌, Option, Some, None, is_some}
use Rattle.pl_marks.specs.declared.author.Author.{Author}
use Rattle.pl_marks.specs.declared.author.Author.TheVariants as author
use Rattle.pl_entry.specs.declared.event.Event.{Event}
use Rattle.pl_entry.specs.declared.event.Event.TheVariants as event
use Rattle.pl_entry.specs.declared.entry.Entry.{Entry}
use Rattle.pl_machine.specs.declared.choice.Choice.{Choice}
use Rattle.pl_machine.specs.World.{World}
use Rattle.pl_machine.specs.Choices.{exec_choice_of, event_of}
use Rattle.pl_acts.specs.declared.role.Role.{Role}
use Rattle.pl_acts.specs.declared.role.Role.TheVariants.{Planner, Executive}
use Rattle.pl_acts.specs.declared.noted.Noted.{Noted}
use Rattle.pl_acts.specs.declared.noted.Noted.TheVariants.{Opened, Made, Stopped}

-- the number of a worker of this role
abbrev pub worker_of : Role → ℕ
worker_of (Planner g) = 1
worker_of Executive = 0

-- who acts in this role where there is one planner
abbrev pub role_author : Role → Author
role_author (Planner g) = author.Planner 1
role_author Executive = author.Executive

-- Whether the role has an event: the planner in each open round that does not rest, the executive where it chooses one.
abbrev pub has_event : Role → World → Bool
has_event (Planner g) w = not w.closed && not w.rested
has_event Executive w = is_some (exec_choice_of w)

-- what the executive chooses in the world before
abbrev pub IsChosen : Option Choice → Event → Type 0
IsChosen None e = ⊥
IsChosen (Some choice) e = e ≡ event_of choice

-- an input with this line
abbrev pub IsInputOf : Option (List ℕ) → World → Entry → Type 0
IsInputOf line w e = e.event ≡ event.Input line

-- ---- kinds of entries

abbrev pub is_repair : Event → Bool
is_repair (event.Fix k m) = true
is_repair event.Rest = true
is_repair _ = false

abbrev pub is_executed : Event → Bool
is_executed (event.Commit h) = true
is_executed event.Dispatch = true
is_executed event.Close = true
is_executed _ = false

abbrev pub is_input : Event → Bool
is_input (event.Input line) = true
is_input _ = false

-- whether an item is an entry of this kind
abbrev pub is_entry : (Event → Bool) → Noted → Bool
is_entry test (Opened m n e) = false
is_entry test (Made by e) = test e.event
is_entry test (Stopped by) = false

-- the kind of entry that a role makes
abbrev pub kind_of : Role → Event → Bool
kind_of (Planner g) = is_repair
kind_of Executive = is_executed
