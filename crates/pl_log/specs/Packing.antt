-- What is kept of an entry.
use Rattle.std.specs.Prelude.{◌≡◌, ℕ, ℤ, nat_lt, Bool, true, false, List, [], ◌∷◌, ◌++◌, length, Option, Some, None, if◌then◌else◌}
use Rattle.pl_conflict.specs.declared.conflict.Conflict.{Conflict}
use Rattle.pl_plan.specs.declared.repair.RepairMove.{RepairMove}
use Rattle.pl_plan.specs.declared.repair.RepairMove.TheVariants as repair
use Rattle.pl_entry.specs.declared.event.Event.{Event}
use Rattle.pl_entry.specs.declared.event.Event.TheVariants as event
use Rattle.pl_entry.specs.declared.reply.Reply.{Reply}
use Rattle.pl_entry.specs.declared.reply.Reply.TheVariants as reply
use Rattle.pl_entry.specs.declared.entry.Entry.{Entry}
use Rattle.pl_log.specs.declared.form.Form.{Form}
use Rattle.pl_log.specs.declared.form.Form.TheVariants as form
use Rattle.pl_log.specs.declared.form.MoveForm.{MoveForm}
use Rattle.pl_log.specs.declared.form.MoveForm.TheVariants as of
use Rattle.pl_log.specs.declared.parts.Parts.{Parts}

-- an entry as it is packed
pub record Packed : Type 0 where
  pub form : Form
  pub numbers : List ℕ
  pub bytes : List ℕ
  pub values : List (Option ℤ)
  pub whole : List Entry

-- a form and its numbers
abbrev pub short : Form → List ℕ → Packed
short f ns = record { form = f; numbers = ns; bytes = []; values = []; whole = [] }

-- an entry as it is
abbrev pub kept : Entry → Packed
kept e = record { form = form.Whole; numbers = []; bytes = []; values = []; whole = e ∷ [] }

abbrev pub is_done : Reply → Bool
is_done reply.Done = true
is_done _ = false

abbrev pub fix : Conflict → MoveForm → List ℕ → Packed
fix k f ns = short (form.Fix k.code f) (k.from ∷ k.subject ∷ k.detail ∷ k.a ∷ k.b ∷ ns)

abbrev pub fix_of : Conflict → RepairMove → Packed
fix_of k (repair.Add kind start None) = fix k of.Add (kind ∷ start ∷ [])
fix_of k (repair.Add kind start (Some goal)) = fix k of.AddFor (kind ∷ start ∷ goal ∷ [])
fix_of k (repair.Delete id) = fix k of.Delete (id ∷ [])
fix_of k (repair.Shift id start) = fix k of.Shift (id ∷ start ∷ [])
fix_of k (repair.Detail id alternative) = fix k of.Detail (id ∷ alternative ∷ [])
fix_of k (repair.Abstract id) = fix k of.Abstract (id ∷ [])
fix_of k (repair.Assign id param value) = record (fix k (of.Assign param) (id ∷ [])) { values = Some value ∷ [] }
fix_of k (repair.Drop goal) = fix k of.Drop (goal ∷ [])

-- a message, with its length
abbrev pub message_of : List ℕ → Packed
message_of line = record (short form.Message (length line ∷ [])) { bytes = line }

-- a command, with the number of its values
abbrev pub command_of : ℕ → ℕ → ℕ → List (Option ℤ) → Packed
command_of id kind start values = record (short form.Command (id ∷ kind ∷ start ∷ length values ∷ [])) { values = values }

abbrev pub input_packed : Entry → Option (List ℕ) → Reply → Packed
input_packed e None answer = kept e
input_packed e (Some line) answer = if is_done answer then (if nat_lt (length line) 65536 then message_of line else kept e) else kept e

abbrev pub rest_packed : Entry → Reply → Packed
rest_packed e (reply.Rested reason) = short (form.Rest reason) []
rest_packed e _ = kept e

abbrev pub dispatch_packed : Entry → Reply → Packed
dispatch_packed e (reply.Sent id kind start values) = if nat_lt (length values) 65536 then command_of id kind start values else kept e
dispatch_packed e _ = kept e

abbrev pub packed_by : Entry → Event → Reply → Packed
packed_by e (event.Opened o) answer = kept e
packed_by e (event.Input line) answer = input_packed e line answer
packed_by e (event.Fix k move) answer = if is_done answer then fix_of k move else kept e
packed_by e event.Rest answer = rest_packed e answer
packed_by e (event.Commit h) answer = if is_done answer then short form.Commit (h ∷ []) else kept e
packed_by e event.Dispatch answer = dispatch_packed e answer
packed_by e event.Close answer = if is_done answer then short form.Close [] else kept e

abbrev pub packed_of : Entry → Packed
packed_of e = packed_by e e.event e.reply

-- This entry was put at the end of the parts.
pub record Adds (p : Packed) (before after : Parts) : Type 0 where
  pub forms : after.forms.items ≡ before.forms.items ++ p.form ∷ []
  pub numbers : after.numbers.items ≡ before.numbers.items ++ p.numbers
  pub bytes : after.bytes.items ≡ before.bytes.items ++ p.bytes
  pub values : after.values.items ≡ before.values.items ++ p.values
  pub whole : after.whole.items ≡ before.whole.items ++ p.whole
