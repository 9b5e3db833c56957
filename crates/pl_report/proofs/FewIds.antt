-- A legal log gives few ids: each of its entries gives sixteen at most.
use Rattle.std.proofs.Common.{◌≡◌, ℕ, suc, ◌+◌, ◌*◌, ◌≤◌, List, [], ◌∷◌, ◌++◌, length, Option, Some, None, Ok, Err, refl, sym, subst, append_assoc, length-append, arith}
use Rattle.std.proofs.lemmas.List.{append-nil}
use Rattle.std.specs.Prelude.{slice_get, unwrap_or}
use Rattle.pl_lists.proofs.Elements.{all_at}
use Rattle.pl_model.specs.declared.alternatives.Slot.{Slot}
use Rattle.pl_model.specs.declared.alternatives.Alternative.{Alternative}
use Rattle.pl_model.specs.declared.kinds.Kind.{Kind}
use Rattle.pl_model.specs.declared.whole.Model.{Model}
use Rattle.pl_model.specs.Checked.{IsChecked, IsCheckedKind, IsCheckedAlternative}
use Rattle.pl_model.specs.Choices.{alternatives_of}
use Rattle.pl_facts.specs.declared.options.Options.{Options}
use Rattle.pl_msg.specs.declared.message.Message.{Message}
use Rattle.pl_msg.specs.declared.message.Message.TheVariants as message
use Rattle.pl_msg.specs.Reads.{Read}
use Rattle.pl_msg.specs.Messages.{message_of}
use Rattle.pl_plan.specs.declared.activity.Activity.{Activity}
use Rattle.pl_plan.specs.declared.repair.RepairMove.{RepairMove}
use Rattle.pl_plan.specs.declared.repair.RepairMove.TheVariants as repair
use Rattle.pl_plan.specs.Fitting.{kind_of}
use Rattle.pl_entry.specs.declared.event.Event.{Event}
use Rattle.pl_entry.specs.declared.event.Event.TheVariants as event
use Rattle.pl_entry.specs.declared.reply.Reply.{Reply}
use Rattle.pl_entry.specs.declared.reply.Reply.TheVariants as reply
use Rattle.pl_entry.specs.declared.entry.Entry.{Entry}
use Rattle.pl_semantics.specs.declared.plan_state.PlanState.{PlanState}
use Rattle.pl_semantics.specs.PlanStates.{found}
use Rattle.pl_semantics.specs.Moves.{alternatives_at, children_from, children_in, children_for, applied}
use Rattle.pl_machine.specs.World.{World, fresh_world}
use Rattle.pl_machine.specs.Messages.{told, told_by, told_line}
use Rattle.pl_machine.specs.Step.{commit_reply, fix_reply, reply_of, after_input, after_fix, after_commit, after_dispatch, after}
use Rattle.pl_machine.specs.Legal.{world_from, opening, options_in, no_options, IsOpenedRun, Legal, world_of, IsHistory}
use Rattle.pl_machine.proofs.Runs.{world_from_push}
use Rattle.pl_machine.proofs.Models.{model_of_world}

-- ---- a repair

few_slots : (model : Model) → IsChecked model → (a : Activity) (n : ℕ) (of : Alternative) (o : Option Kind) → kind_of model a ≡ o → slice_get (alternatives_of o) n ≡ Some of → length of.slots ≤ 16
few_slots model checked a n of None e f = absurd (cc)
few_slots model checked a n of (Some k) e f =
    let kind : IsCheckedKind model k = all_at (IsCheckedKind model) model.kinds a.kind k checked.kinds e in
    (all_at (IsCheckedAlternative model (length k.params)) k.alternatives n of kind.alternatives f).few_slots

few_from : (s : PlanState) (parent : Activity) (n : ℕ) (slots : List Slot) (offsets : List ℕ) → length (children_from s parent n slots offsets) ≤ length slots
few_from s parent n [] offsets = omega arith
few_from s parent n (at ∷ more) [] = omega arith
few_from s parent n (at ∷ more) (offset ∷ offsets) = let rest = few_from s parent (suc n) more offsets in omega (arith, rest)

few_in : (s : PlanState) → IsChecked s.model → (a : Activity) (n : ℕ) (o : Option Alternative) → slice_get (alternatives_at s a) n ≡ o → length (children_in s a o) ≤ 16
few_in s checked a n None e = omega arith
few_in s checked a n (Some of) e =
    let slots : length of.slots ≤ 16 = few_slots s.model checked a n of (kind_of s.model a) refl e in
    let children = few_from s a 0 of.slots of.offsets in
    omega (arith, slots, children)

few_children : (s : PlanState) → IsChecked s.model → (n : ℕ) (o : Option Activity) → length (children_for s n o) ≤ 16
few_children s checked n None = omega arith
few_children s checked n (Some a) = few_in s checked a n (slice_get (alternatives_at s a) n) refl

few_applied : (s : PlanState) (m : RepairMove) → IsChecked s.model → (applied s m).next_id ≤ s.next_id + 16
unfolding applied
few_applied s (repair.Add kind start goal) checked = omega arith
few_applied s (repair.Delete id) checked = omega arith
few_applied s (repair.Shift id start) checked = omega arith
few_applied s (repair.Detail id alternative) checked = let few = few_children s checked alternative (found s id) in omega (arith, few)
few_applied s (repair.Abstract id) checked = omega arith
few_applied s (repair.Assign id param value) checked = omega arith
few_applied s (repair.Drop goal) checked = omega arith

-- ---- an event

few_told : (s : PlanState) (m : Message) → (told s m).next_id ≤ s.next_id + 16
few_told s (message.Goal g) = omega arith
few_told s (message.TeleLevel line value) = omega arith
few_told s (message.TeleState line state) = omega arith
few_told s (message.Tick moment) = omega arith
few_told s (message.Until id moment) = omega arith
few_told s message.Halt = omega arith
few_told s message.End = omega arith

few_read : (s : PlanState) (read : Read Message) → (told_by s read).next_id ≤ s.next_id + 16
few_read s (Ok m) = few_told s m
few_read s (Err e) = omega arith

few_line : (s : PlanState) (line : List ℕ) → (told_line s line).next_id ≤ s.next_id + 16
unfolding told_line
few_line s line = few_read s (message_of s.model line)

few_input : (w : World) (line : Option (List ℕ)) (r : Reply) → (after_input w line r).state.next_id ≤ w.state.next_id + 16
few_input w line reply.Ended = omega arith
few_input w None _ = omega arith
few_input w (Some line) reply.Done = few_line w.state line
few_input w (Some line) _ = omega arith

few_fix : (w : World) (m : RepairMove) (r : Reply) → IsChecked w.state.model → (after_fix w m r).state.next_id ≤ w.state.next_id + 16
few_fix w m reply.Done checked = few_applied w.state m checked
few_fix w m _ checked = omega arith

few_commit : (w : World) (h : ℕ) (r : Reply) → (after_commit w h r).state.next_id ≤ w.state.next_id + 16
few_commit w h reply.Done = omega arith
few_commit w h (reply.Held k) = omega arith
few_commit w h _ = omega arith

few_dispatch : (w : World) (r : Reply) → (after_dispatch w r).state.next_id ≤ w.state.next_id + 16
few_dispatch w (reply.Sent id kind start values) = omega arith
few_dispatch w _ = omega arith

few_after : (w : World) (e : Event) → IsChecked w.state.model → (after w e).state.next_id ≤ w.state.next_id + 16
few_after w (event.Opened o) checked = omega arith
few_after w (event.Input line) checked = few_input w line (reply_of w (event.Input line))
few_after w (event.Fix k m) checked = few_fix w m (fix_reply w.state k m) checked
few_after w event.Rest checked = omega arith
few_after w (event.Commit h) checked = few_commit w h (commit_reply w.state h)
few_after w event.Dispatch checked = few_dispatch w (reply_of w event.Dispatch)
few_after w event.Close checked = omega arith

-- ---- a log

model_there : (m : Model) (o : Options) (front : List Entry) → (world_from (fresh_world m o) front).state.model ≡ m
unfolding world_of
model_there m o front = model_of_world m (opening o ∷ front)

abbrev HasFewIds : Model → Options → List Entry → Type 0
HasFewIds m o entries = (world_from (fresh_world m o) entries).state.next_id ≤ 16 * (length entries + 1)

few_push : (m : Model) (o : Options) (front : List Entry) (e : Entry) → IsChecked m → HasFewIds m o front → HasFewIds m o (front ++ e ∷ [])
few_push m o front e checked few =
    let w : World = world_from (fresh_world m o) front in
    let next : (after w e.event).state.next_id ≤ w.state.next_id + 16 = few_after w e.event (subst IsChecked (sym (model_there m o front)) checked) in
    let longer : length (front ++ e ∷ []) ≡ length front + 1 = length-append front (e ∷ []) in
    subst (λ (v : World). v.state.next_id ≤ 16 * (length (front ++ e ∷ []) + 1)) (sym (world_from_push (fresh_world m o) front e)) (omega (arith, longer, next, few))

few_behind : (m : Model) (o : Options) (front entries : List Entry) → IsChecked m → HasFewIds m o front → HasFewIds m o (front ++ entries)
few_behind m o front [] checked few = subst (λ (es : List Entry). HasFewIds m o es) (sym (append-nil front)) few
few_behind m o front (e ∷ es) checked few = subst (λ (l : List Entry). HasFewIds m o l) (append_assoc front (e ∷ []) es) (few_behind m o (front ++ e ∷ []) es checked (few_push m o front e checked few))

few_opened : (m : Model) (o : Option Options) (answer : Reply) (entries : List Entry) → IsChecked m → IsOpenedRun m o answer entries → (world_from (fresh_world m (unwrap_or o no_options)) entries).state.next_id ≤ 3999999000
few_opened m None answer entries checked run = absurd run
few_opened m (Some o) answer entries checked run =
    let first : HasFewIds m o [] = omega arith in
    let ids : HasFewIds m o entries = few_behind m o [] entries checked first in
    let within : length entries + 1 ≤ o.entries = run.bounded in
    let most : o.entries ≤ 250000 = run.options.entries.1 in
    omega (arith, ids, within, most)

few_logged : (m : Model) (log : List Entry) → IsChecked m → Legal m log → (world_of m log).state.next_id ≤ 3999999000
unfolding world_of
few_logged m [] checked legal = absurd legal
few_logged m (first ∷ entries) checked legal = few_opened m (options_in first.event) first.reply entries checked legal

pub few_ids : (m : Model) (log : List Entry) (w : World) → IsChecked m → IsHistory m log w → w.state.next_id ≤ 3999999000
few_ids m log w checked history = subst (λ (v : World). v.state.next_id ≤ 3999999000) (sym history.world) (few_logged m log checked history.legal)
