-- The laws of the legal logs of a model. The world after a log is the one that all its entries led to, and a log with an entry more
-- has that entry behind it.
use Rattle.std.specs.Prelude.{◌≡◌, ℕ, ◌+◌, ◌*◌, ◌≤◌, min, true, List, [], ◌∷◌, ◌++◌, length, Option, Some, None, Ok, AllPairs, ◌↔◌}
use Rattle.std.specs.List.{filter_map}
use Rattle.pl_model.specs.declared.whole.Model.{Model}
use Rattle.pl_conflict.specs.declared.conflict.Conflict.{Conflict}
use Rattle.pl_plan.specs.declared.repair.RepairMove.{RepairMove}
use Rattle.pl_msg.specs.declared.message.Message.TheVariants as message
use Rattle.pl_msg.specs.Messages.{message_of}
use Rattle.pl_entry.specs.declared.event.Event.{Event}
use Rattle.pl_entry.specs.declared.event.Event.TheVariants as event
use Rattle.pl_entry.specs.declared.reply.Reply.{Reply}
use Rattle.pl_entry.specs.declared.reply.Reply.TheVariants as reply
use Rattle.pl_entry.specs.declared.entry.Entry.{Entry}
use Rattle.pl_semantics.specs.declared.plan_state.PlanState.{PlanState}
use Rattle.pl_semantics.specs.Conflicts.{conflicts_of}
use Rattle.pl_semantics.specs.Grants.{IsGrantable}
use Rattle.pl_update.specs.Changes.Changes.{withdrawn}
use Rattle.pl_moves.specs.Keeping.{KeepsCommitted}
use Rattle.pl_machine.specs.declared.choice.Choice.TheVariants as choice
use Rattle.pl_machine.specs.World.{World, fresh_world, due_in}
use Rattle.pl_machine.specs.Step.{after}
use Rattle.pl_machine.specs.Choices.{exec_choice_of}
use Rattle.pl_machine.specs.Legal.{Legal, options_of, entries_behind, world_of}
use Rattle.pl_machine.specs.Finished.{inputs_of}
use Rattle.pl_journal.specs.Rendering.Lines.{text_of_log, AreEntries}
use Rattle.pl_laws.specs.Accepted.{accepted_of, NoneHalts}
use Rattle.pl_laws.specs.Standing.{IsFrontOfDue, StaysBelow}

abbrev pub with_entry : List Entry → Event → Reply → List Entry
with_entry log happened answer = log ++ record { event = happened; reply = answer } ∷ []

-- the plan state after a log
abbrev pub state_of : Model → List Entry → PlanState
state_of m log = (world_of m log).state

-- ---- logs

-- what a legal log begins with, from its opening on, is a legal log
abbrev pub FrontsAreLegal : Model → Type 0
FrontsAreLegal m = (first : Entry) (es more : List Entry) → Legal m (first ∷ es ++ more) → Legal m (first ∷ es)

-- each entry may stand in a journal under its place in the log as its number
abbrev pub MayBeWritten : Model → Type 0
MayBeWritten m = (log : List Entry) → Legal m log → AreEntries m 0 log

-- two logs that are written as one text are one log
abbrev pub AreToldApart : Model → Type 0
AreToldApart m = (one other : List Entry) → Legal m one → Legal m other → text_of_log m one ≡ text_of_log m other → one ≡ other

-- ---- what is committed

-- A repair, whatever is answered, leaves each committed activity as it was: itself, its values and its end. It commits nothing.
abbrev pub RepairsKeepCommitted : Model → Type 0
RepairsKeepCommitted m = (log : List Entry) (k : Conflict) (mv : RepairMove) (answer : Reply) → Legal m (with_entry log (event.Fix k mv) answer)
    → KeepsCommitted (state_of m log) (state_of m (with_entry log (event.Fix k mv) answer))

-- In a log that goes on each activity that is committed and has begun stays committed, and is changed by nothing but its end, by the
-- messages `until` of its id that are accepted.
abbrev pub BegunStays : Model → Type 0
BegunStays m = (log more : List Entry) → Legal m log → Legal m (log ++ more)
    → StaysBelow (min (state_of m log).committed ((state_of m log).moment + 1)) (accepted_of m more) (state_of m log) (state_of m (log ++ more))

-- Up to the next `halt` that is accepted, so does each activity that is committed, whether or not it has begun.
abbrev pub CommittedStays : Model → Type 0
CommittedStays m = (log more : List Entry) → Legal m log → Legal m (log ++ more) → NoneHalts (accepted_of m more)
    → StaysBelow (state_of m log).committed (accepted_of m more) (state_of m log) (state_of m (log ++ more))

-- in a log that goes on without a `halt` that is accepted no less is committed
abbrev pub CommitsNeverFall : Model → Type 0
CommitsNeverFall m = (log more : List Entry) → Legal m log → Legal m (log ++ more) → NoneHalts (accepted_of m more)
    → (state_of m log).committed ≤ (state_of m (log ++ more)).committed

-- A `halt` is accepted in each world in which a message may come. It withdraws what starts after the present, and changes nothing
-- else of the plan state.
abbrev pub HaltsWithdraw : Model → Type 0
HaltsWithdraw m = (log : List Entry) (line : List ℕ) (answer : Reply) → message_of m line ≡ Ok message.Halt
    → Legal m (with_entry log (event.Input (Some line)) answer)
    → (answer ≡ reply.Done) × (state_of m (with_entry log (event.Input (Some line)) answer) ≡ withdrawn (state_of m log))

-- A commit is granted exactly where it goes further than the present and than what is committed, and not past the horizon, and no
-- conflict begins before its moment.
abbrev pub CommitsAreGranted : Model → Type 0
CommitsAreGranted m = (log : List Entry) (h : ℕ) (answer : Reply) → Legal m (with_entry log (event.Commit h) answer)
    → (answer ≡ reply.Done) ↔ IsGrantable (state_of m log) h

-- a commit that is granted leaves the conflicts as they were
abbrev pub GrantsChangeNoConflict : Model → Type 0
GrantsChangeNoConflict m = (log : List Entry) (h : ℕ) → Legal m (with_entry log (event.Commit h) reply.Done)
    → conflicts_of (state_of m (with_entry log (event.Commit h) reply.Done)) ≡ conflicts_of (state_of m log)

-- ---- what is sent

-- what was sent is a front of what is due
abbrev pub SentIsInFront : Model → Type 0
SentIsInFront m = (log : List Entry) → Legal m log → IsFrontOfDue (world_of m log)

-- at a close all that is due was sent
abbrev pub AllIsSentAtClose : Model → Type 0
AllIsSentAtClose m = (log : List Entry) (answer : Reply) → Legal m (with_entry log event.Close answer)
    → (world_of m (with_entry log event.Close answer)).dispatched ≡ due_in (state_of m (with_entry log event.Close answer))

-- the start that a command gives
abbrev pub start_sent : Reply → Option ℕ
start_sent (reply.Sent id kind start values) = Some start
start_sent _ = None

-- the starts of the commands of a log, in its order
abbrev pub starts_of : List Entry → List ℕ
starts_of log = filter_map (λ e. start_sent e.reply) log

-- no command starts before one that was sent earlier
abbrev pub StartsNeverFall : Model → Type 0
StartsNeverFall m = (log : List Entry) → Legal m log → AllPairs (λ earlier later. earlier ≤ later) (starts_of log)

-- ---- how long a log is

-- a commit is what the executive chooses, once repair rests
abbrev pub IsChosen : World → Event → Type 0
IsChosen w (event.Opened o) = Unit {0}
IsChosen w (event.Input line) = Unit {0}
IsChosen w (event.Fix k mv) = Unit {0}
IsChosen w event.Rest = Unit {0}
IsChosen w (event.Commit h) = (w.rested ≡ true) × (exec_choice_of w ≡ Some (choice.Commit h))
IsChosen w event.Dispatch = Unit {0}
IsChosen w event.Close = Unit {0}

abbrev pub chosen_from : World → List Entry → Type 0
chosen_from w [] = Unit {0}
chosen_from w (e ∷ es) = IsChosen w e.event × chosen_from (after w e.event) es

-- so is each commit of a log, as in every log of one thread
abbrev pub AreCommitsChosen : Model → List Entry → Type 0
AreCommitsChosen m log = chosen_from (fresh_world m (options_of log)) (entries_behind log)

-- Beside its opening such a log has ten thousand commands at most, and for each input four entries and as many as a round has turns.
abbrev pub LengthIsBounded : Model → Type 0
LengthIsBounded m = (log : List Entry) → Legal m log → AreCommitsChosen m log → length log ≤ 10001 + length (inputs_of log) * ((options_of log).turns + 4)

-- a commit is what the executive chooses, whether or not repair rests
abbrev pub IsExecutiveChoice : World → Event → Type 0
IsExecutiveChoice w (event.Opened o) = Unit {0}
IsExecutiveChoice w (event.Input line) = Unit {0}
IsExecutiveChoice w (event.Fix k mv) = Unit {0}
IsExecutiveChoice w event.Rest = Unit {0}
IsExecutiveChoice w (event.Commit h) = exec_choice_of w ≡ Some (choice.Commit h)
IsExecutiveChoice w event.Dispatch = Unit {0}
IsExecutiveChoice w event.Close = Unit {0}

abbrev pub executive_from : World → List Entry → Type 0
executive_from w [] = Unit {0}
executive_from w (e ∷ es) = IsExecutiveChoice w e.event × executive_from (after w e.event) es

-- so is each commit of a log, as where an executive acts on a plan that a planner repairs
abbrev pub AreCommitsOfExecutive : Model → List Entry → Type 0
AreCommitsOfExecutive m log = executive_from (fresh_world m (options_of log)) (entries_behind log)

-- what is chosen once repair rests is chosen, so each log of one thread is such a log too
abbrev pub ChosenAreOfExecutive : Model → Type 0
ChosenAreOfExecutive m = (log : List Entry) → AreCommitsChosen m log → AreCommitsOfExecutive m log

-- Beside its opening such a log has ten thousand commands at most, and for each input five entries and twice as many as a round has turns.
abbrev pub PairLengthIsBounded : Model → Type 0
PairLengthIsBounded m = (log : List Entry) → Legal m log → AreCommitsOfExecutive m log → length log ≤ 10001 + length (inputs_of log) * (2 * (options_of log).turns + 5)
