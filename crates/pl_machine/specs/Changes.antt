-- The changes that events make of the plan state.
use Rattle.std.specs.Prelude.{◌≡◌, ◌<◌, ◌≤◌, Bool, false, true, None, slice_get}
use Rattle.pl_facts.specs.Goals.{goal_of}
use Rattle.pl_semantics.specs.declared.plan_state.PlanState.{PlanState}
use Rattle.pl_semantics.specs.Whole.{IsGoalOf}
use Rattle.pl_semantics.specs.Moves.{is_proper, refusal_of, applied}
use Rattle.pl_update.specs.Changes.Changes.{with_goal, told_now, moved_on, committed_to, measured_to, withdrawn, CanTell, CanMeasure}
use Rattle.pl_entry.specs.declared.reply.Reply.TheVariants as reply
use Rattle.pl_machine.specs.World.{due_in}
use Rattle.pl_machine.specs.Step.{commit_reply}
use Rattle.pl_machine.specs.declared.change.Change.{Change}
use Rattle.pl_machine.specs.declared.change.Change.TheVariants.{Accept, Tell, Tick, Commit, Repair, Measure, Withdraw}

abbrev pub changed : Change → PlanState → PlanState
changed (Accept goal) s = with_goal goal s
changed (Tell line value) s = told_now line value s
changed (Tick moment) s = moved_on moment s
changed (Commit h) s = committed_to h s
changed (Repair m) s = applied s m
changed (Measure id moment) s = measured_to id moment s
changed Withdraw s = withdrawn s

-- the present moves on
abbrev pub is_tick : Change → Bool
is_tick (Accept goal) = false
is_tick (Tell line value) = false
is_tick (Tick moment) = true
is_tick (Commit h) = false
is_tick (Repair m) = false
is_tick (Measure id moment) = false
is_tick Withdraw = false

-- unless the present moves on, what is due stays
abbrev pub KeepsDue : Change → PlanState → PlanState → Type 0
KeepsDue change old new = is_tick change ≡ false → due_in new ≡ due_in old

-- the change may be made
abbrev pub CanChange : PlanState → Change → Type 0
CanChange s (Accept goal) = (goal_of goal.number s.goals ≡ None) × IsGoalOf s.model goal × (goal.dropped ≡ false)
CanChange s (Tell line value) = CanTell value (slice_get s.model.timelines line)
CanChange s (Tick moment) = (s.moment < moment) × (moment ≤ s.model.horizon)
CanChange s (Commit h) = commit_reply s h ≡ reply.Done
CanChange s (Repair m) = (is_proper s m ≡ true) × (refusal_of s m ≡ None) × (s.next_id ≤ 3999999000)
CanChange s (Measure id moment) = CanMeasure s id moment
CanChange s Withdraw = Unit {0}
