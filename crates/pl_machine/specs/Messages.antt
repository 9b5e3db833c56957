-- What is answered to a message line, and what an accepted message makes of the plan state.
use Rattle.std.specs.Prelude.{ℕ, pos, length, nat_lt, nat_le, Bool, true, false, ◌&&◌, if◌then◌else◌, List, Option, Some, None, Ok, Err}
use Rattle.std.specs.List.{list_any}
use Rattle.pl_facts.specs.declared.goal.Goal.{Goal}
use Rattle.pl_facts.specs.Goals.{is_numbered}
use Rattle.pl_msg.specs.declared.message.Message.{Message}
use Rattle.pl_msg.specs.declared.message.Message.TheVariants as message
use Rattle.pl_msg.specs.declared.fault.ParseFault.{ParseFault}
use Rattle.pl_msg.specs.declared.fault.ParseFault.TheVariants as fault
use Rattle.pl_msg.specs.Reads.{Read}
use Rattle.pl_msg.specs.Messages.{message_of}
use Rattle.pl_entry.specs.declared.reply.Reply.{Reply}
use Rattle.pl_entry.specs.declared.reply.Reply.TheVariants as reply
use Rattle.pl_semantics.specs.declared.plan_state.PlanState.{PlanState}
use Rattle.pl_plan.specs.declared.activity.Activity.{Activity}
use Rattle.pl_plan.specs.Firm.{is_firm}
use Rattle.pl_semantics.specs.PlanStates.{floor_of, found, is_committed}
use Rattle.pl_update.specs.Changes.Changes.{with_goal, told_now, moved_on, measured_to, withdrawn}

-- ---- replies

-- a goal whose number was accepted before, one that is to start below the floor, and one too many are refused, in this order
abbrev pub goal_reply : PlanState → ℕ → Goal → Reply
goal_reply s limit g =
    if list_any (is_numbered g.number) s.goals then reply.DuplicateGoal
    else if nat_lt g.latest (floor_of s) then reply.TooLate
    else if nat_le limit (length s.goals) then reply.TooManyGoals
    else reply.Done

-- a moment up to the present, and one past the horizon are refused, in this order
abbrev pub tick_reply : PlanState → ℕ → Reply
tick_reply s moment =
    if nat_le moment s.moment then reply.TickBack
    else if nat_lt s.model.horizon moment then reply.TickBeyond
    else reply.Done

-- whether the activity has begun: it is committed, starts at the present at the latest, and is firm
abbrev pub has_begun : PlanState → Activity → Bool
has_begun s a = is_committed s a && (nat_le a.start s.moment && is_firm s.model s.plan.activities a.id)

-- an end up to the start is refused
abbrev pub end_reply : ℕ → ℕ → Reply
end_reply start moment = if nat_le moment start then reply.EndBack else reply.Done

-- to the measured end of this activity, if it is live
abbrev pub measured_reply : PlanState → Option Activity → ℕ → Reply
measured_reply s None moment = reply.NotBegun
measured_reply s (Some a) moment = if has_begun s a then end_reply a.start moment else reply.NotBegun

-- the measured end of what is not live or has not begun, and one up to the start are refused, in this order
abbrev pub until_reply : PlanState → ℕ → ℕ → Reply
until_reply s id moment = measured_reply s (found s id) moment

abbrev pub message_reply : PlanState → ℕ → Message → Reply
message_reply s limit (message.Goal g) = goal_reply s limit g
message_reply s limit (message.TeleLevel line value) = reply.Done
message_reply s limit (message.TeleState line state) = reply.Done
message_reply s limit (message.Tick moment) = tick_reply s moment
message_reply s limit (message.Until id moment) = until_reply s id moment
message_reply s limit message.Halt = reply.Done
message_reply s limit message.End = reply.Ended

-- no line has the fault of wanting memory
abbrev pub fault_reply : ParseFault → Reply
fault_reply fault.BadLine = reply.BadLine
fault_reply fault.UnknownName = reply.UnknownName
fault_reply fault.OutOfRange = reply.Range
fault_reply fault.Memory = reply.BadLine

-- to a line that was read; so many goals may be accepted
abbrev pub read_reply : PlanState → ℕ → Read Message → Reply
read_reply s limit (Ok m) = message_reply s limit m
read_reply s limit (Err e) = fault_reply e

-- the reply to a line
unfoldable pub line_reply : PlanState → ℕ → List ℕ → Reply
line_reply s limit line = read_reply s limit (message_of s.model line)

-- ---- the plan state after

-- a goal stands at the end of the goals, a base is told at the present, the present moves on, an end is measured, and what has not begun is withdrawn
abbrev pub told : PlanState → Message → PlanState
told s (message.Goal g) = with_goal g s
told s (message.TeleLevel line value) = told_now line value s
told s (message.TeleState line state) = told_now line (pos state) s
told s (message.Tick moment) = moved_on moment s
told s (message.Until id moment) = measured_to id moment s
told s message.Halt = withdrawn s
told s message.End = s

abbrev pub told_by : PlanState → Read Message → PlanState
told_by s (Ok m) = told s m
told_by s (Err e) = s

-- after a line that was accepted
unfoldable pub told_line : PlanState → List ℕ → PlanState
told_line s line = told_by s (message_of s.model line)

-- ---- whether commits are held back

-- a halt holds them back, and a tick lets them go on
abbrev pub halts : Bool → Message → Bool
halts halted (message.Goal g) = halted
halts halted (message.TeleLevel line value) = halted
halts halted (message.TeleState line state) = halted
halts halted (message.Tick moment) = false
halts halted (message.Until id moment) = halted
halts halted message.Halt = true
halts halted message.End = halted

abbrev pub halts_by : Bool → Read Message → Bool
halts_by halted (Ok m) = halts halted m
halts_by halted (Err e) = halted

-- after a line that was accepted
unfoldable pub halts_line : PlanState → Bool → List ℕ → Bool
halts_line s halted line = halts_by halted (message_of s.model line)
