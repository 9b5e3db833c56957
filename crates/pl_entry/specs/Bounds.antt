-- What an entry of a journal may hold: its numbers fit their types and limits, and its reply is one that its event can have.
use Rattle.std.specs.Prelude.{◌≡◌, ℕ, ◌<◌, ◌≤◌, ◌^◌, ◌==◌, ℤ, false, List, length, Option, Some, None, All, IfSome, slice_get}
use Rattle.std.specs.List.{list_any}
use Rattle.pl_model.specs.declared.kinds.Kind.{Kind}
use Rattle.pl_model.specs.declared.whole.Model.{Model}
use Rattle.pl_model.specs.Checked.{IsAmount}
use Rattle.pl_conflict.specs.declared.conflict.Conflict.{Conflict}
use Rattle.pl_facts.specs.declared.options.Options.{Options}
use Rattle.pl_plan.specs.declared.repair.RepairMove.{RepairMove}
use Rattle.pl_plan.specs.declared.repair.RepairMove.TheVariants as repair
use Rattle.pl_entry.specs.declared.event.Event.{Event}
use Rattle.pl_entry.specs.declared.event.Event.TheVariants as event
use Rattle.pl_entry.specs.declared.reply.Reply.{Reply}
use Rattle.pl_entry.specs.declared.reply.Reply.TheVariants as reply
use Rattle.pl_entry.specs.declared.entry.Entry.{Entry}

-- ---- numbers

abbrev pub IsWord : ℕ → Type 0
IsWord n = n < 2 ^ 32

abbrev pub IsWordIf : Option ℕ → Type 0
IsWordIf n = IfSome n IsWord

-- each from 1 to its limit
pub record AreOptions (o : Options) : Type 0 where
  pub turns : (1 ≤ o.turns) × (o.turns ≤ 1000)
  pub live : (1 ≤ o.live) × (o.live ≤ 10000)
  pub goals : (1 ≤ o.goals) × (o.goals ≤ 20000)
  pub entries : (1 ≤ o.entries) × (o.entries ≤ 250000)

pub record IsConflictInRange (k : Conflict) : Type 0 where
  pub from : IsWord k.from
  pub subject : IsWord k.subject
  pub detail : IsWord k.detail
  pub a : IsWord k.a
  pub b : IsWord k.b

-- ---- events

-- a message line: at most 4,096 bytes, none of them a newline
pub record IsMessageLine (line : List ℕ) : Type 0 where
  pub short : length line ≤ 4096
  pub bytes : All (λ byte. byte < 256) line
  pub one_line : list_any (λ byte. byte == 10) line ≡ false

-- the kind of an added activity is one of the model's, and a value that is set is from 0 to 1,000,000,000
abbrev pub IsMoveInRange : Model → RepairMove → Type 0
IsMoveInRange model (repair.Add kind start goal) = (kind < length model.kinds) × IsWord kind × IsWord start × IsWordIf goal
IsMoveInRange model (repair.Delete id) = IsWord id
IsMoveInRange model (repair.Shift id start) = IsWord id × IsWord start
IsMoveInRange model (repair.Detail id alternative) = IsWord id × IsWord alternative
IsMoveInRange model (repair.Abstract id) = IsWord id
IsMoveInRange model (repair.Assign id param value) = IsWord id × (param < 256) × IsAmount value
IsMoveInRange model (repair.Drop goal) = IsWord goal

abbrev pub IsEventInRange : Model → Event → Type 0
IsEventInRange model (event.Opened o) = AreOptions o
IsEventInRange model (event.Input line) = IfSome line IsMessageLine
IsEventInRange model (event.Fix k move) = IsConflictInRange k × IsMoveInRange model move
IsEventInRange model event.Rest = Unit {0}
IsEventInRange model (event.Commit h) = IsWord h
IsEventInRange model event.Dispatch = Unit {0}
IsEventInRange model event.Close = Unit {0}

-- ---- replies

-- to a message
abbrev pub IsInputReply : Reply → Type 0
IsInputReply reply.Done = Unit {0}
IsInputReply reply.Ended = Unit {0}
IsInputReply reply.BadLine = Unit {0}
IsInputReply reply.UnknownName = Unit {0}
IsInputReply reply.Range = Unit {0}
IsInputReply reply.DuplicateGoal = Unit {0}
IsInputReply reply.TooLate = Unit {0}
IsInputReply reply.TickBack = Unit {0}
IsInputReply reply.TickBeyond = Unit {0}
IsInputReply reply.TooManyGoals = Unit {0}
IsInputReply reply.NotBegun = Unit {0}
IsInputReply reply.EndBack = Unit {0}
IsInputReply _ = ⊥

-- to a repair
abbrev pub IsFixReply : Reply → Type 0
IsFixReply reply.Done = Unit {0}
IsFixReply reply.Stale = Unit {0}
IsFixReply reply.NotFor = Unit {0}
IsFixReply (reply.Locked id) = IsWord id
IsFixReply (reply.Behind id) = IsWord id
IsFixReply (reply.Beyond id) = IsWord id
IsFixReply reply.Full = Unit {0}
IsFixReply _ = ⊥

abbrev pub IsRestReply : Reply → Type 0
IsRestReply (reply.Rested reason) = Unit {0}
IsRestReply _ = ⊥

abbrev pub IsCommitReply : Reply → Type 0
IsCommitReply reply.Done = Unit {0}
IsCommitReply reply.CommitBehind = Unit {0}
IsCommitReply reply.CommitBeyond = Unit {0}
IsCommitReply (reply.Held k) = IsConflictInRange k
IsCommitReply _ = ⊥

abbrev pub IsSent : ℕ → ℕ → List (Option ℤ) → Option Kind → Type 0
IsSent id start values None = ⊥
IsSent id start values (Some kind) = IsWord id × IsWord start × (length values ≡ length kind.params) × All (λ value. IfSome value IsAmount) values

-- to a dispatch: one place for each parameter of the kind, which is one of the model's
abbrev pub IsDispatchReply : Model → Reply → Type 0
IsDispatchReply model (reply.Sent id kind start values) = IsWord kind × IsSent id start values (slice_get model.kinds kind)
IsDispatchReply model _ = ⊥

abbrev pub IsLineReply : Option (List ℕ) → Reply → Type 0
IsLineReply None answer = answer ≡ reply.Ended
IsLineReply (Some line) answer = IsInputReply answer

abbrev pub IsReplyTo : Model → Event → Reply → Type 0
IsReplyTo model (event.Opened o) answer = answer ≡ reply.Done
IsReplyTo model (event.Input line) answer = IsLineReply line answer
IsReplyTo model (event.Fix k move) answer = IsFixReply answer
IsReplyTo model event.Rest answer = IsRestReply answer
IsReplyTo model (event.Commit h) answer = IsCommitReply answer
IsReplyTo model event.Dispatch answer = IsDispatchReply model answer
IsReplyTo model event.Close answer = answer ≡ reply.Done

-- ---- entries

-- the opening has the number 0, and no other entry has it
abbrev pub IsNumberOf : ℕ → Event → Type 0
IsNumberOf number (event.Opened o) = number ≡ 0
IsNumberOf number _ = 1 ≤ number

-- an entry that may stand in a journal under this number
pub record IsJournalEntry (model : Model) (number : ℕ) (e : Entry) : Type 0 where
  pub numbered : IsNumberOf number e.event
  pub event : IsEventInRange model e.event
  pub reply : IsReplyTo model e.event e.reply
