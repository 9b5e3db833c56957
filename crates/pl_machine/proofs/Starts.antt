-- What is sent next starts no earlier than what was sent.
use Rattle.std.proofs.Common.{◌≡◌, ℕ, ◌<◌, ◌≤◌, List, length, take, Option, Some, None, get_or, Bool, sym, ◌∙◌, ap, subst, arith}
use Rattle.std.proofs.lemmas.Grind.{get_or_default_zero}
use Rattle.std.proofs.lemmas.List.{length-take, get_or-take}
use Rattle.pl_model.specs.declared.whole.Model.{Model}
use Rattle.pl_entry.proofs.DueLaws.{due_meets}
use Rattle.pl_entry.specs.declared.entry.Entry.{Entry}
use Rattle.pl_entry.specs.declared.event.Event.TheVariants as event
use Rattle.pl_entry.specs.declared.reply.Reply.{Reply}
use Rattle.pl_entry.proofs.Growth.{starts_rise}
use Rattle.pl_plan.specs.declared.activity.Activity.{Activity}
use Rattle.pl_semantics.specs.declared.plan_state.PlanState.{PlanState}
use Rattle.pl_semantics.specs.PlanStates.{found}
use Rattle.pl_semantics.specs.Whole.{IsWhole}
use Rattle.pl_machine.specs.declared.ahead.Ahead.{Ahead}
use Rattle.pl_machine.specs.declared.id_range.IdRange.{IdRange}
use Rattle.pl_machine.specs.World.{World, due_in}
use Rattle.pl_machine.specs.Step.{next_due, sent_reply, reply_of}
use Rattle.pl_machine.specs.Sending.{IsLastStart, StartsLast}
use Rattle.pl_machine.specs.Sound.{State, IsSound}
use Rattle.pl_machine.specs.Taking.{IsOpen}
use Rattle.pl_machine.proofs.Sends.{left_of_open, next_found, next_live}

-- of two places in what is due, the later one starts no earlier
later_start : (s : PlanState) (i j : ℕ) (a b : Activity) → IsWhole s → i < j → j < length (due_in s) → found s (get_or (due_in s) i 0) ≡ Some a → found s (get_or (due_in s) j 0) ≡ Some b → a.start ≤ b.start
later_start s i j a b whole lt within one other = starts_rise a b ((due_meets s.model s.plan.activities whole.rising s.moment s.committed).order i j 0 lt within a b one other)

last_at : (w : World) (due : List ℕ) (sent : ℕ) (b : Activity) → IsWhole w.state → due ≡ due_in w.state → w.dispatched ≡ take sent due → sent < length due → found w.state (get_or due sent 0) ≡ Some b → IsLastStart w b.start
last_at w due sent b whole listed dispatched lt next id a (k, less, is) here =
    let before : k < sent = (let there : k < length (take sent due) = subst (λ (xs : List ℕ). k < length xs) dispatched less in omega (arith, there, length-take sent due)) in
    let same : get_or w.dispatched k id ≡ get_or due k id = ap (λ (xs : List ℕ). get_or xs k id) dispatched ∙ get_or-take sent due k id before in
    let place : id ≡ get_or due k 0 = sym is ∙ same ∙ get_or_default_zero due k id (omega (arith, before, lt)) in
    let one : found w.state (get_or (due_in w.state) k 0) ≡ Some a = subst (λ (n : ℕ). found w.state n ≡ Some a) (place ∙ ap (λ (xs : List ℕ). get_or xs k 0) listed) here in
    let other : found w.state (get_or (due_in w.state) sent 0) ≡ Some b = subst (λ (xs : List ℕ). found w.state (get_or xs sent 0) ≡ Some b) listed next in
    later_start w.state k sent a b whole before (subst (λ (xs : List ℕ). sent < length xs) listed lt) one other

last_by : (w : World) (o : Option Activity) (b : Activity) → o ≡ Some b → IsLastStart w b.start → StartsLast w (sent_reply w.state o)
last_by w None b is last = absurd (cc)
last_by w (Some a) b is last = subst (λ (c : Activity). IsLastStart w c.start) (let same : b ≡ a = cc in same) last

pub starts_last : (s : State) {spoiled : Bool} {m : Model} {log : List Entry} {w : World} {due : List ℕ} {sent : ℕ} {ahead : Ahead} {ranges : List IdRange} (answer : Reply)
    → record { spoiled = spoiled; model = m; log = log; world = w } ≡ s → IsSound spoiled m log w due sent ahead ranges → w.dispatched ≡ take sent due → IsWhole s.world.state → IsOpen s event.Dispatch
    → answer ≡ reply_of s.world event.Dispatch → StartsLast s.world answer
starts_last s {spoiled} {m} {log} {w} {due} {sent} answer is sound dispatched whole may answers =
    let standing = sound.stands (ap (λ (t : State). t.spoiled) is ∙ may.unspoiled) in
    let same : w ≡ s.world = ap (λ (t : State). t.world) is in
    let whole_before : IsWhole w.state = subst (λ (v : World). IsWhole v.state) (sym same) whole in
    let lt : sent < length due = left_of_open s is sound dispatched may in
    let live = next_live w.state due sent whole_before standing.listed lt in
    let next : next_due w ≡ Some live.0 = next_found w due sent standing.listed dispatched lt ∙ live.1 in
    let last : IsLastStart w live.0.start = last_at w due sent live.0 whole_before standing.listed dispatched lt live.1 in
    let done : StartsLast w (sent_reply w.state (next_due w)) = last_by w (next_due w) live.0 next last in
    let there : StartsLast s.world (sent_reply s.world.state (next_due s.world)) = subst (λ (v : World). StartsLast v (sent_reply v.state (next_due v))) same done in
    subst (StartsLast s.world) (sym answers) there
