-- No event changes the model.
use Rattle.std.proofs.Common.{◌≡◌, ℕ, List, [], ◌∷◌, Option, Some, None, Ok, Err, refl, ◌∙◌}
use Rattle.pl_model.specs.declared.whole.Model.{Model}
use Rattle.pl_plan.specs.declared.repair.RepairMove.{RepairMove}
use Rattle.pl_plan.specs.declared.repair.RepairMove.TheVariants as repair
use Rattle.pl_msg.specs.declared.message.Message.{Message}
use Rattle.pl_msg.specs.declared.message.Message.TheVariants as message
use Rattle.pl_msg.specs.Reads.{Read}
use Rattle.pl_msg.specs.Messages.{message_of}
use Rattle.pl_entry.specs.declared.event.Event.{Event}
use Rattle.pl_entry.specs.declared.event.Event.TheVariants as event
use Rattle.pl_entry.specs.declared.reply.Reply.{Reply}
use Rattle.pl_entry.specs.declared.reply.Reply.TheVariants as reply
use Rattle.pl_entry.specs.declared.entry.Entry.{Entry}
use Rattle.pl_semantics.specs.declared.plan_state.PlanState.{PlanState}
use Rattle.pl_semantics.specs.Moves.{applied}
use Rattle.pl_machine.specs.World.{World, fresh_world}
use Rattle.pl_machine.specs.Messages.{told, told_by, told_line}
use Rattle.pl_machine.specs.Step.{commit_reply, fix_reply, reply_of, after_input, after_fix, after_commit, after_dispatch, after}
use Rattle.pl_machine.specs.Legal.{world_from, options_of, entries_behind, world_of}

model_repair : (s : PlanState) (m : RepairMove) → (applied s m).model ≡ s.model
unfolding applied
model_repair s (repair.Add kind start goal) = refl
model_repair s (repair.Delete id) = refl
model_repair s (repair.Shift id start) = refl
model_repair s (repair.Detail id alternative) = refl
model_repair s (repair.Abstract id) = refl
model_repair s (repair.Assign id param value) = refl
model_repair s (repair.Drop goal) = refl

model_told : (s : PlanState) (m : Message) → (told s m).model ≡ s.model
model_told s (message.Goal g) = refl
model_told s (message.TeleLevel line value) = refl
model_told s (message.TeleState line state) = refl
model_told s (message.Tick moment) = refl
model_told s (message.Until id moment) = refl
model_told s message.Halt = refl
model_told s message.End = refl

model_read : (s : PlanState) (read : Read Message) → (told_by s read).model ≡ s.model
model_read s (Ok m) = model_told s m
model_read s (Err e) = refl

model_line : (s : PlanState) (line : List ℕ) → (told_line s line).model ≡ s.model
unfolding told_line
model_line s line = model_read s (message_of s.model line)

model_input : (w : World) (line : Option (List ℕ)) (r : Reply) → (after_input w line r).state.model ≡ w.state.model
model_input w line reply.Ended = refl
model_input w None _ = refl
model_input w (Some line) reply.Done = model_line w.state line
model_input w (Some line) _ = refl

model_fix : (w : World) (m : RepairMove) (r : Reply) → (after_fix w m r).state.model ≡ w.state.model
model_fix w m reply.Done = model_repair w.state m
model_fix w m _ = refl

model_commit : (w : World) (h : ℕ) (r : Reply) → (after_commit w h r).state.model ≡ w.state.model
model_commit w h reply.Done = refl
model_commit w h (reply.Held k) = refl
model_commit w h _ = refl

model_dispatch : (w : World) (r : Reply) → (after_dispatch w r).state.model ≡ w.state.model
model_dispatch w (reply.Sent id kind start values) = refl
model_dispatch w _ = refl

pub model_after : (w : World) (e : Event) → (after w e).state.model ≡ w.state.model
model_after w (event.Opened o) = refl
model_after w (event.Input line) = model_input w line (reply_of w (event.Input line))
model_after w (event.Fix k m) = model_fix w m (fix_reply w.state k m)
model_after w event.Rest = refl
model_after w (event.Commit h) = model_commit w h (commit_reply w.state h)
model_after w event.Dispatch = model_dispatch w (reply_of w event.Dispatch)
model_after w event.Close = refl

model_from : (w : World) (es : List Entry) → (world_from w es).state.model ≡ w.state.model
model_from w [] = refl
model_from w (e ∷ es) = model_from (after w e.event) es ∙ model_after w e.event

pub model_of_world : (m : Model) (log : List Entry) → (world_of m log).state.model ≡ m
unfolding world_of
model_of_world m log = model_from (fresh_world m (options_of log)) (entries_behind log)
