-- Each event leaves the model of the plan state, and commits no less, if it is no `halt`.
use Rattle.std.proofs.Common.{◌≡◌, ℕ, ◌≤◌, List, [], ◌∷◌, Option, Some, None, Ok, Err, refl, sym, ◌∙◌, subst, arith}
use Rattle.pl_model.specs.declared.whole.Model.{Model}
use Rattle.pl_plan.specs.declared.repair.RepairMove.{RepairMove}
use Rattle.pl_plan.specs.declared.repair.RepairMove.TheVariants as repair
use Rattle.pl_msg.specs.declared.message.Message.{Message}
use Rattle.pl_msg.specs.declared.message.Message.TheVariants as message
use Rattle.pl_msg.specs.Reads.{Read}
use Rattle.pl_msg.specs.Messages.{message_of}
use Rattle.pl_entry.specs.declared.event.Event.{Event}
use Rattle.pl_entry.specs.declared.event.Event.TheVariants as event
use Rattle.pl_entry.specs.declared.reply.Reply.{Reply}
use Rattle.pl_entry.specs.declared.reply.Reply.TheVariants as reply
use Rattle.pl_entry.specs.declared.entry.Entry.{Entry}
use Rattle.pl_semantics.specs.declared.plan_state.PlanState.{PlanState}
use Rattle.pl_semantics.specs.Moves.{applied}
use Rattle.pl_machine.specs.World.{World, fresh_world}
use Rattle.pl_machine.specs.Messages.{told, told_by, told_line}
use Rattle.pl_machine.specs.Step.{commit_reply, fix_reply, reply_of, after_input, after_fix, after_commit, after_dispatch, after}
use Rattle.pl_machine.specs.Legal.{legal_from, world_from, options_of, entries_behind, world_of}
use Rattle.pl_machine.proofs.Granting.{commit_bounds}
use Rattle.pl_laws.specs.Accepted.{message_in, accepted, accepted_of, NoneHalts}
use Rattle.pl_laws.proofs.Accepting.{one_message, halts, none_before, none_behind, accepted_is}
use Rattle.pl_laws.proofs.Changing.{said_by}

pub record Lasts (messages : List Message) (s s2 : PlanState) : Type 0 where
  pub model : s2.model ≡ s.model
  pub committed : NoneHalts messages → s.committed ≤ s2.committed

lasts_itself : (s : PlanState) → Lasts [] s s
lasts_itself s = record { model = refl; committed = λ none. omega arith }

lasts_repair : (s : PlanState) (m : RepairMove) → Lasts [] s (applied s m)
unfolding applied
lasts_repair s (repair.Add kind start goal) = record { model = refl; committed = λ none. omega arith }
lasts_repair s (repair.Delete id) = record { model = refl; committed = λ none. omega arith }
lasts_repair s (repair.Shift id start) = record { model = refl; committed = λ none. omega arith }
lasts_repair s (repair.Detail id alternative) = record { model = refl; committed = λ none. omega arith }
lasts_repair s (repair.Abstract id) = record { model = refl; committed = λ none. omega arith }
lasts_repair s (repair.Assign id param value) = record { model = refl; committed = λ none. omega arith }
lasts_repair s (repair.Drop goal) = record { model = refl; committed = λ none. omega arith }

lasts_told : (s : PlanState) (m : Message) → Lasts (m ∷ []) s (told s m)
lasts_told s (message.Goal g) = record { model = refl; committed = λ none. omega arith }
lasts_told s (message.TeleLevel line value) = record { model = refl; committed = λ none. omega arith }
lasts_told s (message.TeleState line state) = record { model = refl; committed = λ none. omega arith }
lasts_told s (message.Tick moment) = record { model = refl; committed = λ none. omega arith }
lasts_told s (message.Until id moment) = record { model = refl; committed = λ none. omega arith }
lasts_told s message.Halt = record { model = refl; committed = λ none. absurd (halts none) }
lasts_told s message.End = record { model = refl; committed = λ none. omega arith }

lasts_read : (s : PlanState) (read : Read Message) → Lasts (one_message (message_in read)) s (told_by s read)
lasts_read s (Ok m) = lasts_told s m
lasts_read s (Err e) = lasts_itself s

lasts_line : (s : PlanState) (line : List ℕ) → Lasts (one_message (message_in (message_of s.model line))) s (told_line s line)
unfolding told_line
lasts_line s line = lasts_read s (message_of s.model line)

lasts_input : (w : World) (line : Option (List ℕ)) (r : Reply) → Lasts (said_by w (event.Input line) r) w.state (after_input w line r).state
lasts_input w None reply.Ended = lasts_itself w.state
lasts_input w None _ = lasts_itself w.state
lasts_input w (Some line) reply.Ended = lasts_itself w.state
lasts_input w (Some line) reply.Done = lasts_line w.state line
lasts_input w (Some line) _ = lasts_itself w.state

lasts_fix : (w : World) (m : RepairMove) (r : Reply) → Lasts [] w.state (after_fix w m r).state
lasts_fix w m reply.Done = lasts_repair w.state m
lasts_fix w m _ = lasts_itself w.state

lasts_commit : (w : World) (h : ℕ) (r : Reply) → commit_reply w.state h ≡ r → Lasts [] w.state (after_commit w h r).state
lasts_commit w h reply.Done is = record { model = refl; committed = λ none. (commit_bounds w.state h is).0 }
lasts_commit w h (reply.Held k) is = lasts_itself w.state
lasts_commit w h _ is = lasts_itself w.state

lasts_dispatch : (w : World) (r : Reply) → Lasts [] w.state (after_dispatch w r).state
lasts_dispatch w (reply.Sent id kind start values) = lasts_itself w.state
lasts_dispatch w _ = lasts_itself w.state

pub lasts_after : (w : World) (e : Event) → Lasts (said_by w e (reply_of w e)) w.state (after w e).state
lasts_after w (event.Opened o) = lasts_itself w.state
lasts_after w (event.Input line) = lasts_input w line (reply_of w (event.Input line))
lasts_after w (event.Fix k m) = lasts_fix w m (fix_reply w.state k m)
lasts_after w event.Rest = lasts_itself w.state
lasts_after w (event.Commit h) = lasts_commit w h (commit_reply w.state h) refl
lasts_after w event.Dispatch = lasts_dispatch w (reply_of w event.Dispatch)
lasts_after w event.Close = lasts_itself w.state

pub model_on : (w : World) (es : List Entry) → (world_from w es).state.model ≡ w.state.model
model_on w [] = refl
model_on w (e ∷ es) = model_on (after w e.event) es ∙ (lasts_after w e.event).model

pub lasts_on : (m : Model) (w : World) (es : List Entry) → w.state.model ≡ m → legal_from w es → NoneHalts (accepted_of m es) → w.state.committed ≤ (world_from w es).state.committed
lasts_on m w [] is legal none = omega arith
lasts_on m w (e ∷ es) is legal none =
    let one = lasts_after w e.event in
    let o : Option Message = accepted m e.event e.reply in
    let same : accepted w.state.model e.event (reply_of w e.event) ≡ o = accepted_is m w.state.model e.event e.reply (reply_of w e.event) is legal.0.answers in
    let first : w.state.committed ≤ (after w e.event).state.committed = one.committed (subst (λ (p : Option Message). NoneHalts (one_message p)) (sym same) (none_before o (accepted_of m es) none)) in
    let second : (after w e.event).state.committed ≤ (world_from (after w e.event) es).state.committed = lasts_on m (after w e.event) es (one.model ∙ is) legal.1 (none_behind o (accepted_of m es) none) in
    omega (arith, first, second)

-- the model of the world after a log is the log's
pub same_model : (m : Model) (log : List Entry) → (world_of m log).state.model ≡ m
unfolding world_of
same_model m log = model_on (fresh_world m (options_of log)) (entries_behind log)
