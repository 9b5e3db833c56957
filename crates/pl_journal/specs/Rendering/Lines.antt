-- The lines of a journal, one for each entry. A line is its entry's number and then words, each behind a blank: what was asked and what was answered.
use Rattle.std.specs.Prelude.{ℕ, ℤ, ◌+◌, List, [], ◌∷◌, ◌++◌, Option, Some, None, slice_get, codes, decimal}
use Rattle.std.specs.Option.{option_map_or}
use Rattle.std.specs.Fmt.{signed_decimal}
use Rattle.pl_model.specs.declared.parameters.Param.{Param}
use Rattle.pl_model.specs.declared.whole.Model.{Model}
use Rattle.pl_conflict.specs.declared.conflict.Code.{Code}
use Rattle.pl_conflict.specs.declared.conflict.Code.TheVariants as code
use Rattle.pl_conflict.specs.declared.conflict.Conflict.{Conflict}
use Rattle.pl_facts.specs.declared.options.Options.{Options}
use Rattle.pl_plan.specs.declared.repair.RepairMove.{RepairMove}
use Rattle.pl_plan.specs.declared.repair.RepairMove.TheVariants as repair
use Rattle.pl_entry.specs.declared.event.Event.{Event}
use Rattle.pl_entry.specs.declared.event.Event.TheVariants as event
use Rattle.pl_entry.specs.declared.reply.Reply.{Reply}
use Rattle.pl_entry.specs.declared.reply.Reply.TheVariants as reply
use Rattle.pl_entry.specs.declared.reply.Reason.{Reason}
use Rattle.pl_entry.specs.declared.reply.Reason.TheVariants as reason
use Rattle.pl_entry.specs.declared.entry.Entry.{Entry}
use Rattle.pl_entry.specs.Bounds.{IsJournalEntry}
use Rattle.pl_journal.specs.Rendering.Words.{spaced}

-- ---- conflicts

abbrev pub code_word : Code → List ℕ
code_word code.OpenGoal = codes "open-goal"
code_word code.OffGoal = codes "off-goal"
code_word code.Late = codes "late"
code_word code.Unset = codes "unset"
code_word code.BadValue = codes "bad-value"
code_word code.Undetailed = codes "undetailed"
code_word code.Overrun = codes "overrun"
code_word code.Temporal = codes "temporal"
code_word code.Linked = codes "link"
code_word code.Over = codes "over"
code_word code.Low = codes "low"
code_word code.High = codes "high"
code_word code.Must = codes "must"
code_word code.BadStep = codes "bad-step"

-- FROM CODE SUBJECT DETAIL A B
abbrev pub conflict_words : Conflict → List (List ℕ)
conflict_words k = decimal k.from ∷ code_word k.code ∷ decimal k.subject ∷ decimal k.detail ∷ decimal k.a ∷ decimal k.b ∷ []

-- ---- names

-- a kind's name, and none where the model has no such kind
abbrev pub kind_name : Model → ℕ → List ℕ
kind_name m kind = option_map_or (λ k. k.name) (slice_get m.kinds kind) []

abbrev pub kind_params : Model → ℕ → List Param
kind_params m kind = option_map_or (λ k. k.params) (slice_get m.kinds kind) []

-- ---- moves

-- goal GOAL, where the new activity is to serve one
abbrev pub goal_words : Option ℕ → List (List ℕ)
goal_words None = []
goal_words (Some goal) = codes "goal" ∷ decimal goal ∷ []

-- add KIND START, and a goal; delete ID; shift ID START; detail ID ALTERNATIVE; abstract ID; assign ID PARAM VALUE; drop GOAL
abbrev pub move_words : Model → RepairMove → List (List ℕ)
move_words m (repair.Add kind start goal) = codes "add" ∷ kind_name m kind ∷ decimal start ∷ goal_words goal
move_words m (repair.Delete id) = codes "delete" ∷ decimal id ∷ []
move_words m (repair.Shift id start) = codes "shift" ∷ decimal id ∷ decimal start ∷ []
move_words m (repair.Detail id alternative) = codes "detail" ∷ decimal id ∷ decimal alternative ∷ []
move_words m (repair.Abstract id) = codes "abstract" ∷ decimal id ∷ []
move_words m (repair.Assign id param value) = codes "assign" ∷ decimal id ∷ decimal param ∷ signed_decimal value ∷ []
move_words m (repair.Drop goal) = codes "drop" ∷ decimal goal ∷ []

-- ---- commands

-- NAME=VALUE in one word
abbrev pub value_word : List ℕ → ℤ → List ℕ
value_word name value = name ++ 61 ∷ signed_decimal value

-- nothing where there is no value
abbrev pub value_words : Param → Option ℤ → List (List ℕ)
value_words p None = []
value_words p (Some value) = value_word p.name value ∷ []

-- one after another, each parameter with the value at its place
abbrev pub values_words : List Param → List (Option ℤ) → List (List ℕ)
values_words [] values = []
values_words (p ∷ ps) [] = []
values_words (p ∷ ps) (v ∷ vs) = value_words p v ++ values_words ps vs

-- ID KIND START and the values
abbrev pub command_words : Model → ℕ → ℕ → ℕ → List (Option ℤ) → List (List ℕ)
command_words m id kind start values = decimal id ∷ kind_name m kind ∷ decimal start ∷ values_words (kind_params m kind) values

-- ---- replies

abbrev pub reason_word : Reason → List ℕ
reason_word reason.Clear = codes "clear"
reason_word reason.Spent = codes "spent"
reason_word reason.Stuck = codes "stuck"

abbrev pub reply_words : Model → Reply → List (List ℕ)
reply_words m reply.Done = codes "ok" ∷ []
reply_words m reply.Ended = codes "end" ∷ []
reply_words m reply.BadLine = codes "bad-line" ∷ []
reply_words m reply.UnknownName = codes "unknown-name" ∷ []
reply_words m reply.Range = codes "range" ∷ []
reply_words m reply.DuplicateGoal = codes "duplicate-goal" ∷ []
reply_words m reply.TooLate = codes "too-late" ∷ []
reply_words m reply.TickBack = codes "tick-back" ∷ []
reply_words m reply.TickBeyond = codes "tick-beyond" ∷ []
reply_words m reply.TooManyGoals = codes "too-many-goals" ∷ []
reply_words m reply.NotBegun = codes "not-begun" ∷ []
reply_words m reply.EndBack = codes "end-back" ∷ []
reply_words m reply.Stale = codes "stale" ∷ []
reply_words m reply.NotFor = codes "not-for" ∷ []
reply_words m (reply.Locked id) = codes "locked" ∷ decimal id ∷ []
reply_words m (reply.Behind id) = codes "behind" ∷ decimal id ∷ []
reply_words m (reply.Beyond id) = codes "beyond" ∷ decimal id ∷ []
reply_words m reply.Full = codes "full" ∷ []
reply_words m (reply.Rested why) = reason_word why ∷ []
reply_words m reply.CommitBehind = codes "behind" ∷ []
reply_words m reply.CommitBeyond = codes "beyond" ∷ []
reply_words m (reply.Held k) = codes "held" ∷ conflict_words k
reply_words m (reply.Sent id kind start values) = command_words m id kind start values

-- ---- entries

-- open turns TURNS live LIVE goals GOALS entries ENTRIES
abbrev pub options_words : Options → List (List ℕ)
options_words o = codes "open" ∷ codes "turns" ∷ decimal o.turns ∷ codes "live" ∷ decimal o.live ∷ codes "goals" ∷ decimal o.goals ∷ codes "entries" ∷ decimal o.entries ∷ []

-- in REPLY : MESSAGE, with the bytes of the message as they came, blanks among them; or in eof, which prints no reply
abbrev pub input_words : Model → Option (List ℕ) → Reply → List (List ℕ)
input_words m None r = codes "in" ∷ codes "eof" ∷ []
input_words m (Some line) r = codes "in" ∷ (reply_words m r ++ codes ":" ∷ line ∷ [])

-- fix CONFLICT by MOVE : REPLY
abbrev pub fix_words : Model → Conflict → RepairMove → Reply → List (List ℕ)
fix_words m k move r = codes "fix" ∷ (conflict_words k ++ codes "by" ∷ (move_words m move ++ codes ":" ∷ reply_words m r))

-- commit MOMENT : REPLY
abbrev pub commit_words : Model → ℕ → Reply → List (List ℕ)
commit_words m h r = codes "commit" ∷ decimal h ∷ codes ":" ∷ reply_words m r

-- an event and its reply, which neither the opening of a log nor the close of a round prints
abbrev pub event_words : Model → Event → Reply → List (List ℕ)
event_words m (event.Opened o) r = options_words o
event_words m (event.Input line) r = input_words m line r
event_words m (event.Fix k move) r = fix_words m k move r
event_words m event.Rest r = codes "rest" ∷ reply_words m r
event_words m (event.Commit h) r = commit_words m h r
event_words m event.Dispatch r = codes "dispatch" ∷ reply_words m r
event_words m event.Close r = codes "close" ∷ []

-- the line of an entry with this number, up to its newline
unfoldable pub text_of : Model → ℕ → Entry → List ℕ
text_of m n e = decimal n ++ spaced (event_words m e.event e.reply)

-- and with it
unfoldable pub line_of : Model → ℕ → Entry → List ℕ
line_of m n e = text_of m n e ++ 10 ∷ []

-- ---- logs

-- the lines of the entries, numbered from a number on
abbrev pub text_from : Model → ℕ → List Entry → List ℕ
text_from m n [] = []
text_from m n (e ∷ es) = line_of m n e ++ text_from m (n + 1) es

abbrev pub text_of_log : Model → List Entry → List ℕ
text_of_log m log = text_from m 0 log

-- each may stand in a journal under its number
abbrev pub AreEntries : Model → ℕ → List Entry → Type 0
AreEntries m n [] = Unit {0}
AreEntries m n (e ∷ es) = IsJournalEntry m n e × AreEntries m (n + 1) es
