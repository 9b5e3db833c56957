-- The entry that was packed. A number that is missing is 0.
use Rattle.std.specs.Prelude.{ℕ, ℤ, pos, List, [], ◌∷◌, take, drop, slice_index, Option, Some, None}
use Rattle.pl_conflict.specs.declared.conflict.Conflict.{Conflict}
use Rattle.pl_conflict.specs.declared.conflict.Code.{Code}
use Rattle.pl_plan.specs.declared.repair.RepairMove.{RepairMove}
use Rattle.pl_plan.specs.declared.repair.RepairMove.TheVariants as repair
use Rattle.pl_entry.specs.declared.event.Event.TheVariants as event
use Rattle.pl_entry.specs.declared.reply.Reply.TheVariants as reply
use Rattle.pl_entry.specs.declared.entry.Entry.{Entry}
use Rattle.pl_log.specs.declared.form.Form.{Form}
use Rattle.pl_log.specs.declared.form.Form.TheVariants as form
use Rattle.pl_log.specs.declared.form.MoveForm.{MoveForm}
use Rattle.pl_log.specs.declared.form.MoveForm.TheVariants as of

-- the first value, and 0 if there is none
abbrev pub first_value : List (Option ℤ) → ℤ
first_value [] = pos 0
first_value (None ∷ vs) = pos 0
first_value (Some v ∷ vs) = v

-- the first of the entries that were kept as they are, and any entry if there is none
abbrev pub first_whole : List Entry → Entry
first_whole [] = record { event = event.Close; reply = reply.Done }
first_whole (e ∷ es) = e

abbrev pub conflict_in : Code → List ℕ → Conflict
conflict_in code ns = record { from = slice_index ns 0; code = code; subject = slice_index ns 1; detail = slice_index ns 2; a = slice_index ns 3; b = slice_index ns 4 }

-- the move, whose numbers stand after the five of its conflict
abbrev pub move_in : MoveForm → List ℕ → List (Option ℤ) → RepairMove
move_in of.Add ns vs = repair.Add (slice_index ns 5) (slice_index ns 6) None
move_in of.AddFor ns vs = repair.Add (slice_index ns 5) (slice_index ns 6) (Some (slice_index ns 7))
move_in of.Delete ns vs = repair.Delete (slice_index ns 5)
move_in of.Shift ns vs = repair.Shift (slice_index ns 5) (slice_index ns 6)
move_in of.Detail ns vs = repair.Detail (slice_index ns 5) (slice_index ns 6)
move_in of.Abstract ns vs = repair.Abstract (slice_index ns 5)
move_in (of.Assign param) ns vs = repair.Assign (slice_index ns 5) param (first_value vs)
move_in of.Drop ns vs = repair.Drop (slice_index ns 5)

-- the entry of a form, from what the parts begin with
abbrev pub entry_in : Form → List ℕ → List ℕ → List (Option ℤ) → List Entry → Entry
entry_in form.Whole ns bs vs ws = first_whole ws
entry_in form.Message ns bs vs ws = record { event = event.Input (Some (take (slice_index ns 0) bs)); reply = reply.Done }
entry_in (form.Fix code f) ns bs vs ws = record { event = event.Fix (conflict_in code ns) (move_in f ns vs); reply = reply.Done }
entry_in (form.Rest reason) ns bs vs ws = record { event = event.Rest; reply = reply.Rested reason }
entry_in form.Commit ns bs vs ws = record { event = event.Commit (slice_index ns 0); reply = reply.Done }
entry_in form.Command ns bs vs ws = record { event = event.Dispatch; reply = reply.Sent (slice_index ns 0) (slice_index ns 1) (slice_index ns 2) (take (slice_index ns 3) vs) }
entry_in form.Close ns bs vs ws = record { event = event.Close; reply = reply.Done }

-- ---- how much of each part an entry has

abbrev pub numbers_of_move : MoveForm → ℕ
numbers_of_move of.Add = 7
numbers_of_move of.AddFor = 8
numbers_of_move of.Delete = 6
numbers_of_move of.Shift = 7
numbers_of_move of.Detail = 7
numbers_of_move of.Abstract = 6
numbers_of_move (of.Assign param) = 6
numbers_of_move of.Drop = 6

abbrev pub numbers_of : Form → ℕ
numbers_of form.Whole = 0
numbers_of form.Message = 1
numbers_of (form.Fix code f) = numbers_of_move f
numbers_of (form.Rest reason) = 0
numbers_of form.Commit = 1
numbers_of form.Command = 4
numbers_of form.Close = 0

abbrev pub bytes_of : Form → List ℕ → ℕ
bytes_of form.Message ns = slice_index ns 0
bytes_of _ ns = 0

abbrev pub values_of_move : MoveForm → ℕ
values_of_move (of.Assign param) = 1
values_of_move _ = 0

abbrev pub values_of : Form → List ℕ → ℕ
values_of (form.Fix code f) ns = values_of_move f
values_of form.Command ns = slice_index ns 3
values_of _ ns = 0

abbrev pub whole_of : Form → ℕ
whole_of form.Whole = 1
whole_of _ = 0

-- the entries of all forms
abbrev pub entries_in : List Form → List ℕ → List ℕ → List (Option ℤ) → List Entry → List Entry
entries_in [] ns bs vs ws = []
entries_in (f ∷ fs) ns bs vs ws = entry_in f ns bs vs ws ∷ entries_in fs (drop (numbers_of f) ns) (drop (bytes_of f ns) bs) (drop (values_of f ns) vs) (drop (whole_of f) ws)
