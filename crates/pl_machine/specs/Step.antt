-- One event: where it is enabled, its reply, and the world after it.
use Rattle.std.specs.Prelude.{◌≡◌, ℕ, ◌+◌, max, List, [], ◌∷◌, ◌++◌, length, Bool, true, false, not, ◌&&◌, nat_lt, nat_le, nat_eq, if◌then◌else◌, Option, Some, None, is_some, slice_get, option_and_then}
use Rattle.std.specs.List.{list_any}
use lib.Pointwise.{pointwise}
use Rattle.pl_conflict.specs.declared.conflict.Conflict.{Conflict}
use Rattle.pl_conflict.specs.Order.{has}
use Rattle.pl_plan.specs.declared.activity.Activity.{Activity}
use Rattle.pl_plan.specs.declared.repair.RepairMove.{RepairMove}
use Rattle.pl_entry.specs.declared.event.Event.{Event}
use Rattle.pl_entry.specs.declared.event.Event.TheVariants as event
use Rattle.pl_entry.specs.declared.reply.Reply.{Reply}
use Rattle.pl_entry.specs.declared.reply.Reply.TheVariants as reply
use Rattle.pl_entry.specs.declared.reply.Reason.{Reason}
use Rattle.pl_entry.specs.Horizon.{target_of, best_of}
use Rattle.pl_semantics.specs.declared.plan_state.PlanState.{PlanState}
use Rattle.pl_semantics.specs.declared.refusal.Refusal.{Refusal}
use Rattle.pl_semantics.specs.declared.refusal.Refusal.TheVariants as refusal
use Rattle.pl_semantics.specs.PlanStates.{found, row_of}
use Rattle.pl_semantics.specs.Conflicts.{conflicts_of}
use Rattle.pl_semantics.specs.Moves.{refusal_of, applied}
use Rattle.pl_semantics.specs.Candidates.{candidates_of, same_move}
use Rattle.pl_update.specs.Changes.Changes.{committed_to}
use Rattle.pl_machine.specs.Messages.{line_reply, told_line, halts_line}
use Rattle.pl_machine.specs.World.{World, due_in, reason_of}

-- ---- how far to commit

-- a commit goes further than what is committed and than the present
abbrev pub behind_of : PlanState → ℕ
behind_of s = max s.committed s.moment

abbrev pub first_conflict : PlanState → Option Conflict
first_conflict s = slice_get (conflicts_of s) 0

abbrev pub target_in : World → ℕ
target_in w = target_of w.state.model w.state.moment w.halted

abbrev pub best_in : World → ℕ
best_in w = best_of w.state.model w.state.moment w.halted (first_conflict w.state)

-- ---- where an event is enabled

-- what was sent is what is due
abbrev pub all_sent : World → Bool
all_sent w = pointwise nat_eq w.dispatched (due_in w.state)

abbrev pub is_enabled : World → Event → Bool
is_enabled w (event.Opened options) = false
is_enabled w (event.Input line) = w.closed && not w.done
is_enabled w (event.Fix k m) = not w.closed && (not w.rested && nat_lt w.turn w.options.turns)
is_enabled w event.Rest = not w.closed && (not w.rested && is_some (reason_of w))
is_enabled w (event.Commit h) = not w.closed
is_enabled w event.Dispatch = not w.closed && nat_lt (length w.dispatched) (length (due_in w.state))
is_enabled w event.Close = not w.closed && (w.rested && (all_sent w && nat_le (best_in w) (behind_of w.state)))

-- ---- replies

abbrev pub input_reply : World → Option (List ℕ) → Reply
input_reply w None = reply.Ended
input_reply w (Some line) = line_reply w.state w.options.goals line

abbrev pub refusal_reply : Option Refusal → Reply
refusal_reply None = reply.Done
refusal_reply (Some (refusal.Locked id)) = reply.Locked id
refusal_reply (Some (refusal.Behind id)) = reply.Behind id
refusal_reply (Some (refusal.Beyond id)) = reply.Beyond id
refusal_reply (Some refusal.Full) = reply.Full

-- whether the move is a candidate of the conflict
abbrev pub is_candidate : PlanState → Conflict → RepairMove → Bool
is_candidate s k m = list_any (same_move m) (candidates_of s k)

-- the conflict does not stand, else the move is none of its candidates, else the move is refused
unfoldable pub fix_reply : PlanState → Conflict → RepairMove → Reply
fix_reply s k m =
    if not (has k (conflicts_of s)) then reply.Stale
    else if not (is_candidate s k m) then reply.NotFor
    else refusal_reply (refusal_of s m)

-- a rest without a reason is not enabled
abbrev pub rest_reply : Option Reason → Reply
rest_reply None = reply.Done
rest_reply (Some r) = reply.Rested r

abbrev pub held_reply : Option Conflict → ℕ → Reply
held_reply None h = reply.Done
held_reply (Some k) h = if nat_lt k.from h then reply.Held k else reply.Done

-- no further than before, else past the horizon, else a conflict stands before it
abbrev pub commit_reply : PlanState → ℕ → Reply
commit_reply s h =
    if nat_le h (behind_of s) then reply.CommitBehind
    else if nat_lt s.model.horizon h then reply.CommitBeyond
    else held_reply (first_conflict s) h

-- an activity's id, kind, start and values, one place for each parameter
abbrev pub sent_of : PlanState → Activity → Reply
sent_of s a = reply.Sent a.id a.kind a.start (row_of s a)

-- a dispatch where nothing is to be sent is not enabled
abbrev pub sent_reply : PlanState → Option Activity → Reply
sent_reply s None = reply.Done
sent_reply s (Some a) = sent_of s a

-- the next due activity
abbrev pub next_due : World → Option Activity
next_due w = option_and_then (found w.state) (slice_get (due_in w.state) (length w.dispatched))

abbrev pub reply_of : World → Event → Reply
reply_of w (event.Opened options) = reply.Done
reply_of w (event.Input line) = input_reply w line
reply_of w (event.Fix k m) = fix_reply w.state k m
reply_of w event.Rest = rest_reply (reason_of w)
reply_of w (event.Commit h) = commit_reply w.state h
reply_of w event.Dispatch = sent_reply w.state (next_due w)
reply_of w event.Close = reply.Done

-- ---- the world after, by the reply

-- a round begins, also after a refused message
abbrev pub round_begun : World → PlanState → Bool → World
round_begun w s halted = record w { state = s; closed = false; rested = false; held = false; turn = 0; halted = halted }

abbrev pub after_input : World → Option (List ℕ) → Reply → World
after_input w line reply.Ended = record w { done = true }
after_input w None _ = w
after_input w (Some line) reply.Done = round_begun w (told_line w.state line) (halts_line w.state w.halted line)
after_input w (Some line) _ = round_begun w w.state w.halted

-- a turn is counted, also for a refused repair
abbrev pub after_fix : World → RepairMove → Reply → World
after_fix w m reply.Done = record w { state = applied w.state m; turn = w.turn + 1; held = false }
after_fix w m _ = record w { turn = w.turn + 1 }

abbrev pub after_commit : World → ℕ → Reply → World
after_commit w h reply.Done = record w { state = committed_to h w.state }
after_commit w h (reply.Held k) = record w { held = true }
after_commit w h _ = w

abbrev pub after_dispatch : World → Reply → World
after_dispatch w (reply.Sent id kind start values) = record w { dispatched = w.dispatched ++ id ∷ [] }
after_dispatch w _ = w

abbrev pub after_with : World → Event → Reply → World
after_with w (event.Opened options) r = w
after_with w (event.Input line) r = after_input w line r
after_with w (event.Fix k m) r = after_fix w m r
after_with w event.Rest r = record w { rested = true }
after_with w (event.Commit h) r = after_commit w h r
after_with w event.Dispatch r = after_dispatch w r
after_with w event.Close r = record w { closed = true }

abbrev pub after : World → Event → World
after w e = after_with w e (reply_of w e)

-- the event is enabled in the old world, has this reply, and leads to the new one
pub record Step (old : World) (event : Event) (answer : Reply) (new : World) : Type 0 where
  pub enabled : is_enabled old event ≡ true
  pub answers : answer ≡ reply_of old event
  pub leaves : new ≡ after old event
