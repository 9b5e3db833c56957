-- What each event leaves of the plan state.
use Rattle.std.proofs.Common.{◌≡◌, ℕ, ◌+◌, ◌<◌, ◌≤◌, min, List, [], ◌∷◌, true, Option, Some, None, Ok, Err, refl, sym, subst, arith, append-nil}
use Rattle.std.specs.Prelude.{ℤ, pos, slice_get}
use Rattle.std.proofs.lemmas.Bool.{lt-ltb}
use Rattle.pl_lists.proofs.Judging.{bind_ok}
use Rattle.pl_conflict.specs.declared.conflict.Conflict.{Conflict}
use Rattle.pl_model.specs.declared.whole.Model.{Model}
use Rattle.pl_facts.specs.declared.goal.Goal.{Goal}
use Rattle.pl_facts.specs.Goals.{goal_of}
use Rattle.pl_plan.specs.declared.repair.RepairMove.{RepairMove}
use Rattle.pl_plan.specs.declared.repair.RepairMove.TheVariants as repair
use Rattle.pl_msg.specs.declared.message.Message.{Message}
use Rattle.pl_msg.specs.declared.message.Message.TheVariants as message
use Rattle.pl_msg.specs.Reads.{Read}
use Rattle.pl_msg.specs.Words.{tokens_in}
use Rattle.pl_msg.specs.Messages.{said_in, message_of}
use Rattle.pl_msg.specs.Limits.{IsWithin}
use Rattle.pl_msg.proofs.Within.{said_fits}
use Rattle.pl_entry.specs.declared.event.Event.{Event}
use Rattle.pl_entry.specs.declared.event.Event.TheVariants as event
use Rattle.pl_entry.specs.declared.reply.Reply.{Reply}
use Rattle.pl_entry.specs.declared.reply.Reply.TheVariants as reply
use Rattle.pl_semantics.specs.declared.plan_state.PlanState.{PlanState}
use Rattle.pl_semantics.specs.Moves.{is_proper, refusal_of, applied}
use Rattle.pl_semantics.specs.Whole.{IsWhole, IsGoalOf}
use Rattle.pl_plan.specs.Firm.{is_firm}
use Rattle.pl_update.specs.Changes.Changes.{with_goal, told_now, moved_on, committed_to, measured_to, withdrawn, CanTell, CanMeasure}
use Rattle.pl_update.proofs.AboutChanges.Keeping.{whole_with_goal, whole_without_goal, whole_moved_on, whole_told, whole_replaced, whole_committed, whole_withdrawn}
use Rattle.pl_update.proofs.AboutChanges.Measuring.{whole_measured}
use Rattle.pl_moves.specs.Changes.{gone_by, placed_by, IsOfActivities}
use Rattle.pl_moves.specs.Keeping.{KeepsCommitted}
use Rattle.pl_moves.proofs.Made.{made, can_replace}
use Rattle.pl_moves.proofs.Drops.{dropped_is}
use Rattle.pl_moves.proofs.Keeping.{keeps}
use Rattle.pl_machine.specs.World.{World, due_in}
use Rattle.pl_machine.specs.Messages.{message_reply, read_reply, line_reply, told, told_by, told_line}
use Rattle.pl_machine.specs.Keeping.{KeepsStanding}
use Rattle.pl_machine.specs.Step.{commit_reply, fix_reply, reply_of, after_input, after_fix, after_commit, after_dispatch, after}
use Rattle.pl_machine.proofs.Changes.{keeps_accept, keeps_tell, keeps_tick}
use Rattle.pl_machine.proofs.Granting.{keeps_commit, commit_bounds}
use Rattle.pl_machine.proofs.Repairs.{keeps_applied}
use Rattle.pl_machine.proofs.Inputs.{can_accept, can_tell_level, can_tell_state, can_tick}
use Rattle.pl_machine.proofs.Measured.{can_until, keeps_measured}
use Rattle.pl_machine.proofs.Withdrawn.{keeps_withdrawn}
use Rattle.pl_machine.proofs.Handed.{can_repair}
use Rattle.pl_laws.specs.Accepted.{message_in, accepted, NoneHalts}
use Rattle.pl_laws.specs.Standing.{StaysBelow}
use Rattle.pl_laws.proofs.Accepting.{one_message, lower, halts}
use Rattle.pl_laws.proofs.Measured.{firm_by_reply, stays_measured}

-- What an event of which these messages were accepted leaves: a plan state that is whole, what is due, and what is committed and has
-- begun. If none of them is `halt`, all that is committed.
pub record Kept (messages : List Message) (s s2 : PlanState) : Type 0 where
  pub whole : IsWhole s2
  pub standing : KeepsStanding s s2
  pub moment : s.moment ≤ s2.moment
  pub begun : StaysBelow (min s.committed (s.moment + 1)) messages s s2
  pub stays : NoneHalts messages → StaysBelow s.committed messages s s2

kept_all : {ms : List Message} (s s2 : PlanState) → IsWhole s2 → KeepsStanding s s2 → s.moment ≤ s2.moment → StaysBelow s.committed ms s s2 → Kept ms s s2
kept_all {ms} s s2 whole standing later stays = record {
  whole = whole;
  standing = standing;
  moment = later;
  begun = lower s.committed (min s.committed (s.moment + 1)) s s2 (omega arith) stays;
  stays = λ none. stays;
}

-- ---- nothing changes

pub stays_itself : (h : ℕ) (s : PlanState) → h ≤ s.committed → StaysBelow h [] s s
stays_itself h s le = record { committed = le; stands = λ id a here early. here; values = λ id a here early. refl; ends = λ id a here early. refl }

standing_itself : (s : PlanState) → KeepsStanding s s
standing_itself s = record { model = refl; next_id = omega arith; due = ([], sym (append-nil (due_in s))); sendable = λ sendable. sendable }

pub kept_itself : (s : PlanState) → IsWhole s → Kept [] s s
kept_itself s whole = kept_all s s whole (standing_itself s) (omega arith) (stays_itself s.committed s (omega arith))

-- ---- a change

stays_commit : (s : PlanState) (h : ℕ) → s.committed ≤ h → StaysBelow s.committed [] s (committed_to h s)
stays_commit s h le = record { committed = le; stands = λ id a here early. here; values = λ id a here early. refl; ends = λ id a here early. refl }

stays_repair : (s s2 : PlanState) → KeepsCommitted s s2 → StaysBelow s.committed [] s s2
stays_repair s s2 keeps = record {
  committed = (let same : s2.committed ≡ s.committed = keeps.committed in omega (arith, same));
  stands = λ id a here early. keeps.stands id a here (lt-ltb a.start s.committed early);
  values = λ id a here early. keeps.values id a here (lt-ltb a.start s.committed early);
  ends = λ id a here early. keeps.ends id a here (lt-ltb a.start s.committed early);
}

whole_by : (s : PlanState) (m : RepairMove) → IsWhole s → s.next_id ≤ 3999999000 → IsOfActivities m → is_proper s m ≡ true → refusal_of s m ≡ None → IsWhole (applied s m)
whole_by s m whole few of proper allowed =
    let by = made s whole m of proper allowed in
    subst IsWhole by.is (whole_replaced s (gone_by s m) (placed_by s m) whole (can_replace s whole few m by))

pub whole_applied : (s : PlanState) (m : RepairMove) → IsWhole s → s.next_id ≤ 3999999000 → is_proper s m ≡ true → refusal_of s m ≡ None → IsWhole (applied s m)
whole_applied s (repair.Add kind start goal) whole few proper allowed = whole_by s (repair.Add kind start goal) whole few tt proper allowed
whole_applied s (repair.Delete id) whole few proper allowed = whole_by s (repair.Delete id) whole few tt proper allowed
whole_applied s (repair.Shift id start) whole few proper allowed = whole_by s (repair.Shift id start) whole few tt proper allowed
whole_applied s (repair.Detail id alternative) whole few proper allowed = whole_by s (repair.Detail id alternative) whole few tt proper allowed
whole_applied s (repair.Abstract id) whole few proper allowed = whole_by s (repair.Abstract id) whole few tt proper allowed
whole_applied s (repair.Assign id param value) whole few proper allowed = whole_by s (repair.Assign id param value) whole few tt proper allowed
whole_applied s (repair.Drop goal) whole few proper allowed = subst IsWhole (dropped_is s goal) (whole_without_goal s goal whole)

kept_accept : (s : PlanState) (g : Goal) → IsWhole s → goal_of g.number s.goals ≡ None → IsGoalOf s.model g → Kept (message.Goal g ∷ []) s (with_goal g s)
kept_accept s g whole none is = kept_all s (with_goal g s) (whole_with_goal s g whole none is) (keeps_accept s g) (omega arith) (record { committed = omega arith; stands = λ id a here early. here; values = λ id a here early. refl; ends = λ id a here early. refl })

kept_level : (s : PlanState) (line : ℕ) (value : ℤ) → IsWhole s → CanTell value (slice_get s.model.timelines line) → Kept (message.TeleLevel line value ∷ []) s (told_now line value s)
kept_level s line value whole can = kept_all s (told_now line value s) (whole_told s line value whole can) (keeps_tell s line value) (omega arith) (record { committed = omega arith; stands = λ id a here early. here; values = λ id a here early. refl; ends = λ id a here early. refl })

kept_state : (s : PlanState) (line state : ℕ) → IsWhole s → CanTell (pos state) (slice_get s.model.timelines line) → Kept (message.TeleState line state ∷ []) s (told_now line (pos state) s)
kept_state s line state whole can = kept_all s (told_now line (pos state) s) (whole_told s line (pos state) whole can) (keeps_tell s line (pos state)) (omega arith) (record { committed = omega arith; stands = λ id a here early. here; values = λ id a here early. refl; ends = λ id a here early. refl })

kept_tick : (s : PlanState) (moment : ℕ) → IsWhole s → s.moment < moment → moment ≤ s.model.horizon → Kept (message.Tick moment ∷ []) s (moved_on moment s)
kept_tick s moment whole later within = kept_all s (moved_on moment s) (whole_moved_on s moment whole later within) (keeps_tick s moment whole.rising later) (omega (arith, later)) (record { committed = omega arith; stands = λ id a here early. here; values = λ id a here early. refl; ends = λ id a here early. refl })

-- what starts after the present is withdrawn, and what has begun is not
kept_halt : (s : PlanState) → IsWhole s → Kept (message.Halt ∷ []) s (withdrawn s)
kept_halt s whole = record {
  whole = whole_withdrawn s whole;
  standing = keeps_withdrawn s;
  moment = omega arith;
  begun = record { committed = omega arith; stands = λ id a here early. here; values = λ id a here early. refl; ends = λ id a here early. refl };
  stays = λ none. absurd (halts none);
}

kept_grant : (s : PlanState) (h : ℕ) → IsWhole s → commit_reply s h ≡ reply.Done → Kept [] s (committed_to h s)
kept_grant s h whole done = let bounds = commit_bounds s h done in kept_all s (committed_to h s) (whole_committed s h whole bounds.0 bounds.1) (keeps_commit s h whole done) (omega arith) (stays_commit s h bounds.0)

kept_repair : (s : PlanState) (m : RepairMove) → IsWhole s → s.next_id ≤ 3999999000 → is_proper s m ≡ true → refusal_of s m ≡ None → Kept [] s (applied s m)
kept_repair s m whole few proper allowed =
    let keeps' = keeps s m whole proper allowed in
    let same : (applied s m).moment ≡ s.moment = keeps'.moment in
    kept_all s (applied s m) (whole_applied s m whole few proper allowed) (keeps_applied s m whole proper allowed) (omega (arith, same)) (stays_repair s (applied s m) keeps')

kept_until : (s : PlanState) (id moment : ℕ) → IsWhole s → CanMeasure s id moment → is_firm s.model s.plan.activities id ≡ true → Kept (message.Until id moment ∷ []) s (measured_to id moment s)
kept_until s id moment whole can firm = kept_all s (measured_to id moment s) (whole_measured s id moment whole can) (keeps_measured s id moment whole can) (omega arith) (stays_measured s id moment whole can firm)

-- ---- a message

within : (model : Model) (line : List ℕ) (m : Message) → message_of model line ≡ Ok m → IsWithin model m
unfolding message_of
within model line m e = let tokens = bind_ok (tokens_in line) (said_in model line) m e in said_fits model line tokens.0 m tokens.2

kept_message : (s : PlanState) (limit : ℕ) (m : Message) → IsWhole s → IsWithin s.model m → message_reply s limit m ≡ reply.Done → Kept (m ∷ []) s (told s m)
kept_message s limit (message.Goal g) whole fits done = let can = can_accept s limit g fits done in kept_accept s g whole can.0 can.1
kept_message s limit (message.TeleLevel line value) whole fits done = kept_level s line value whole (can_tell_level s line value fits.0 fits.1 fits.2 fits.3)
kept_message s limit (message.TeleState line state) whole fits done = kept_state s line state whole (can_tell_state s line state fits.0 fits.1)
kept_message s limit (message.Tick moment) whole fits done = let can = can_tick s moment done in kept_tick s moment whole can.0 can.1
kept_message s limit (message.Until id moment) whole fits done = kept_until s id moment whole (can_until s id moment done fits) (firm_by_reply s id moment done)
kept_message s limit message.Halt whole fits done = kept_halt s whole
kept_message s limit message.End whole fits done = absurd (let d : reply.Ended ≡ reply.Done = done in (cc))

kept_read : (s : PlanState) (limit : ℕ) (read : Read Message) → IsWhole s → ((m : Message) → read ≡ Ok m → IsWithin s.model m) → read_reply s limit read ≡ reply.Done → Kept (one_message (message_in read)) s (told_by s read)
kept_read s limit (Ok m) whole fits done = kept_message s limit m whole (fits m refl) done
kept_read s limit (Err e) whole fits done = kept_itself s whole

kept_line : (s : PlanState) (limit : ℕ) (line : List ℕ) → IsWhole s → line_reply s limit line ≡ reply.Done → Kept (one_message (message_in (message_of s.model line))) s (told_line s line)
unfolding line_reply told_line
kept_line s limit line whole done = kept_read s limit (message_of s.model line) whole (within s.model line) done

-- ---- an event

-- the message of an event that was accepted with this reply
abbrev pub said_by : World → Event → Reply → List Message
said_by w e r = one_message (accepted w.state.model e r)

kept_input : (w : World) (line : Option (List ℕ)) (r : Reply) → IsWhole w.state → reply_of w (event.Input line) ≡ r → Kept (said_by w (event.Input line) r) w.state (after_input w line r).state
kept_input w None reply.Ended whole is = kept_itself w.state whole
kept_input w None _ whole is = kept_itself w.state whole
kept_input w (Some line) reply.Ended whole is = kept_itself w.state whole
kept_input w (Some line) reply.Done whole is = kept_line w.state w.options.goals line whole is
kept_input w (Some line) _ whole is = kept_itself w.state whole

kept_fix : (w : World) (k : Conflict) (m : RepairMove) (r : Reply) → IsWhole w.state → w.state.next_id ≤ 3999999000 → fix_reply w.state k m ≡ r → Kept [] w.state (after_fix w m r).state
kept_fix w k m reply.Done whole few is = let can = can_repair w.state k m is few in kept_repair w.state m whole few can.0 can.1
kept_fix w k m _ whole few is = kept_itself w.state whole

kept_commit : (w : World) (h : ℕ) (r : Reply) → IsWhole w.state → commit_reply w.state h ≡ r → Kept [] w.state (after_commit w h r).state
kept_commit w h reply.Done whole is = kept_grant w.state h whole is
kept_commit w h (reply.Held k) whole is = kept_itself w.state whole
kept_commit w h _ whole is = kept_itself w.state whole

dispatch_state : (w : World) (r : Reply) → (after_dispatch w r).state ≡ w.state
dispatch_state w (reply.Sent id kind start values) = refl
dispatch_state w _ = refl

pub kept_after : (w : World) (e : Event) → IsWhole w.state → w.state.next_id ≤ 3999999000 → Kept (said_by w e (reply_of w e)) w.state (after w e).state
kept_after w (event.Opened o) whole few = kept_itself w.state whole
kept_after w (event.Input line) whole few = kept_input w line (reply_of w (event.Input line)) whole refl
kept_after w (event.Fix k m) whole few = kept_fix w k m (fix_reply w.state k m) whole few refl
kept_after w event.Rest whole few = kept_itself w.state whole
kept_after w (event.Commit h) whole few = kept_commit w h (commit_reply w.state h) whole refl
kept_after w event.Dispatch whole few = subst (λ (s : PlanState). Kept [] w.state s) (sym (dispatch_state w (reply_of w event.Dispatch))) (kept_itself w.state whole)
kept_after w event.Close whole few = kept_itself w.state whole
