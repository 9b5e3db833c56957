-- The report of a machine: how far things are, then the goals, the activities, what is wrong and the commands that were sent, a line each.
use Rattle.std.specs.Prelude.{ℕ, Bool, true, false, List, [], ◌∷◌, ◌++◌, length, flat_map, Option, Some, None, slice_get, codes, decimal}
use Rattle.pl_model.specs.declared.whole.Model.{Model}
use Rattle.pl_conflict.specs.declared.conflict.Conflict.{Conflict}
use Rattle.pl_facts.specs.declared.goal.Goal.{Goal}
use Rattle.pl_plan.specs.declared.activity.Activity.{Activity}
use Rattle.pl_plan.specs.Serving.{serving}
use Rattle.pl_entry.specs.declared.event.Event.{Event}
use Rattle.pl_entry.specs.declared.event.Event.TheVariants as event
use Rattle.pl_entry.specs.declared.reply.Reply.{Reply}
use Rattle.pl_entry.specs.declared.entry.Entry.{Entry}
use Rattle.pl_journal.specs.Rendering.Lines.{kind_name, conflict_words, reply_words}
use Rattle.pl_semantics.specs.declared.plan_state.PlanState.{PlanState}
use Rattle.pl_semantics.specs.PlanStates.{end_at, is_committed}
use Rattle.pl_semantics.specs.Conflicts.{conflicts_of}
use Rattle.pl_machine.specs.Sound.{State}
use Rattle.pl_report.specs.Lines.{line_with}

-- ---- how far things are

-- entries ENTRIES now MOMENT committed MOMENT dispatched COMMANDS conflicts CONFLICTS
abbrev pub heading_words : ℕ → PlanState → ℕ → ℕ → List (List ℕ)
heading_words entries s dispatched conflicts =
    codes "entries" ∷ decimal entries
    ∷ codes "now" ∷ decimal s.moment
    ∷ codes "committed" ∷ decimal s.committed
    ∷ codes "dispatched" ∷ decimal dispatched
    ∷ codes "conflicts" ∷ decimal conflicts ∷ []

abbrev pub heading_line : ℕ → PlanState → ℕ → ℕ → List ℕ
heading_line entries s dispatched conflicts = line_with (codes "report") (heading_words entries s dispatched conflicts)

-- ---- goals

-- whether the goal must be met
abbrev pub duty_word : Bool → List ℕ
duty_word true = codes "must"
duty_word false = codes "may"

-- by the root that serves the goal, if there is one
abbrev pub service_words : Option ℕ → List (List ℕ)
service_words None = codes "open" ∷ []
service_words (Some id) = codes "served" ∷ decimal id ∷ []

-- by whether the goal was dropped
abbrev pub standing_words : Bool → Option ℕ → List (List ℕ)
standing_words true server = codes "dropped" ∷ []
standing_words false server = service_words server

-- the least id of a root that serves the goal
abbrev pub server_of : PlanState → Goal → Option ℕ
server_of s g = slice_get (serving g.number s.plan.activities) 0

-- NUMBER KIND EARLIEST LATEST must|may open|dropped|served ID
abbrev pub goal_words : PlanState → Goal → List (List ℕ)
goal_words s g =
    decimal g.number ∷ kind_name s.model g.kind ∷ decimal g.earliest ∷ decimal g.latest ∷ duty_word g.must
    ∷ standing_words g.dropped (server_of s g)

abbrev pub goal_line : PlanState → Goal → List ℕ
goal_line s g = line_with (codes "goal") (goal_words s g)

-- in the order in which they were accepted
abbrev pub goal_lines : PlanState → List ℕ
goal_lines s = flat_map (goal_line s) s.goals

-- ---- activities

-- an activity that is not firm has no end
abbrev pub end_word : Option ℕ → List ℕ
end_word None = codes "-"
end_word (Some end) = decimal end

-- root, or in PARENT
abbrev pub place_words : Option (ℕ × ℕ) → List (List ℕ)
place_words None = codes "root" ∷ []
place_words (Some p) = codes "in" ∷ decimal p.0 ∷ []

-- whether the activity is committed
abbrev pub status_word : Bool → List ℕ
status_word true = codes "committed"
status_word false = codes "planned"

-- ID KIND START END root|in PARENT committed|planned
abbrev pub activity_words : PlanState → Activity → List (List ℕ)
activity_words s a =
    decimal a.id ∷ kind_name s.model a.kind ∷ decimal a.start ∷ end_word (end_at s a)
    ∷ (place_words a.parent ++ status_word (is_committed s a) ∷ [])

abbrev pub activity_line : PlanState → Activity → List ℕ
activity_line s a = line_with (codes "activity") (activity_words s a)

-- by rising id
abbrev pub activity_lines : PlanState → List ℕ
activity_lines s = flat_map (activity_line s) s.plan.activities

-- ---- what is wrong

abbrev pub conflict_line : Conflict → List ℕ
conflict_line k = line_with (codes "conflict") (conflict_words k)

abbrev pub conflict_lines : PlanState → List ℕ
conflict_lines s = flat_map conflict_line (conflicts_of s)

-- ---- commands

-- of a dispatch, what stands behind its word in the journal
abbrev pub sent_line : Model → Event → Reply → List ℕ
sent_line m event.Dispatch answer = line_with (codes "command") (reply_words m answer)
sent_line m _ answer = []

abbrev pub command_line : Model → Entry → List ℕ
command_line m e = sent_line m e.event e.reply

abbrev pub command_lines : Model → List Entry → List ℕ
command_lines m log = flat_map (command_line m) log

-- ---- the whole

abbrev pub report_on : Model → List Entry → PlanState → List ℕ → List ℕ
report_on m log s dispatched =
    heading_line (length log) s (length dispatched) (length (conflicts_of s))
    ++ (goal_lines s ++ (activity_lines s ++ (conflict_lines s ++ command_lines m log)))

-- by a model, a log, and the plan state and the sent commands of the world after it
unfoldable pub report_of : State → List ℕ
report_of m = report_on m.model m.log m.world.state m.world.dispatched
