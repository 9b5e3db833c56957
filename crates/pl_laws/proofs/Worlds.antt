-- The laws that hold since every plan state of a legal log is whole.
use Rattle.std.proofs.Common.{◌≡◌, ℕ, ◌+◌, ◌≤◌, min, List, [], ◌∷◌, length, Option, refl, sym, subst, arith}
use Rattle.pl_conflict.specs.declared.conflict.Conflict.{Conflict}
use Rattle.pl_model.specs.declared.whole.Model.{Model}
use Rattle.pl_model.specs.Checked.{IsChecked}
use Rattle.pl_plan.specs.declared.repair.RepairMove.{RepairMove}
use Rattle.pl_msg.specs.declared.message.Message.{Message}
use Rattle.pl_entry.specs.declared.event.Event.TheVariants as event
use Rattle.pl_entry.specs.declared.reply.Reply.{Reply}
use Rattle.pl_entry.specs.declared.reply.Reply.TheVariants as reply
use Rattle.pl_entry.specs.declared.entry.Entry.{Entry}
use Rattle.pl_semantics.specs.declared.plan_state.PlanState.{PlanState}
use Rattle.pl_semantics.specs.Whole.{IsWhole}
use Rattle.pl_moves.specs.Keeping.{KeepsCommitted}
use Rattle.pl_moves.proofs.Keeping.{keeps}
use Rattle.pl_machine.specs.World.{World}
use Rattle.pl_machine.specs.Step.{fix_reply, reply_of, after_fix, after}
use Rattle.pl_machine.specs.Legal.{MayFollow, legal_from, world_from, world_of}
use Rattle.pl_machine.proofs.Handed.{can_repair, keeps_itself}
use Rattle.pl_laws.specs.Accepted.{accepted, accepted_of, NoneHalts}
use Rattle.pl_laws.specs.Standing.{StaysBelow}
use Rattle.pl_laws.specs.Laws.{RepairsKeepCommitted, BegunStays, CommittedStays, SentIsInFront}
use Rattle.pl_laws.proofs.Accepting.{one_message, none_before, none_behind, stays_through, accepted_is}
use Rattle.pl_laws.proofs.Fronts.{goes_on, last_entry}
use Rattle.pl_laws.proofs.Changing.{Kept, stays_itself}
use Rattle.pl_laws.proofs.Running.{Stands, few_ids, kept_of, stands_after, stands_of}

pub front_of_due : (m : Model) → IsChecked m → SentIsInFront m
front_of_due m checked log legal = (stands_of m log checked legal).sent

fix_keeps : (w : World) (k : Conflict) (mv : RepairMove) (r : Reply) → IsWhole w.state → w.state.next_id ≤ 3999999000 → fix_reply w.state k mv ≡ r → KeepsCommitted w.state (after_fix w mv r).state
fix_keeps w k mv reply.Done whole few is = let can = can_repair w.state k mv is few in keeps w.state mv whole can.0 can.1
fix_keeps w k mv _ whole few is = keeps_itself w.state

pub repairs_keep : (m : Model) → IsChecked m → RepairsKeepCommitted m
repairs_keep m checked log k mv answer legal =
    let last = last_entry m log (event.Fix k mv) answer (λ begun. begun) legal in
    let stands = stands_of m log checked last.front in
    let w = world_of m log in
    let most : length log + 1 ≤ 250000 = last.bounded in
    subst (λ (v : World). KeepsCommitted w.state v.state) (sym last.leaves) (fix_keeps w k mv (fix_reply w.state k mv) stands.whole (few_ids stands (omega (arith, most))) refl)

-- ---- a log that goes on

-- what is committed and has begun
abbrev begun_of : PlanState → ℕ
begun_of s = min s.committed (s.moment + 1)

-- what an entry leaves, by the message that the log says was accepted
kept_by : {m : Model} {count : ℕ} {w : World} (e : Entry) → Stands m count w → count ≤ 250000 → MayFollow w e → Kept (one_message (accepted m e.event e.reply)) w.state (after w e.event).state
kept_by {m} {count} {w} e stands most follows =
    subst (λ (o : Option Message). Kept (one_message o) w.state (after w e.event).state) (accepted_is m w.state.model e.event e.reply (reply_of w e.event) stands.model follows.answers) (kept_of e.event stands most)

begun_later : {ms : List Message} (s s2 : PlanState) → Kept ms s s2 → begun_of s ≤ begun_of s2
begun_later {ms} s s2 kept =
    let most : min s.committed (s.moment + 1) ≤ s2.committed = kept.begun.committed in
    let later : s.moment ≤ s2.moment = kept.moment in
    omega (arith, most, later)

begun_on : {m : Model} (count : ℕ) (w : World) (es : List Entry) → Stands m count w → count + length es ≤ 250000 → legal_from w es → StaysBelow (begun_of w.state) (accepted_of m es) w.state (world_from w es).state
begun_on {m} count w [] stands most legal = stays_itself (begun_of w.state) w.state (omega arith)
begun_on {m} count w (e ∷ es) stands most legal =
    let next : Stands m (count + 1) (after w e.event) = stands_after e.event stands (omega (arith, most)) legal.0.enabled in
    let kept = kept_by e stands (omega (arith, most)) legal.0 in
    stays_through (begun_of w.state) (begun_of (after w e.event).state) (accepted m e.event e.reply) (accepted_of m es) w.state (after w e.event).state (world_from (after w e.event) es).state
    (begun_later w.state (after w e.event).state kept) kept.begun (begun_on (count + 1) (after w e.event) es next (omega (arith, most)) legal.1)

stays_on : {m : Model} (count : ℕ) (w : World) (es : List Entry) → Stands m count w → count + length es ≤ 250000 → legal_from w es → NoneHalts (accepted_of m es) → StaysBelow w.state.committed (accepted_of m es) w.state (world_from w es).state
stays_on {m} count w [] stands most legal none = stays_itself w.state.committed w.state (omega arith)
stays_on {m} count w (e ∷ es) stands most legal none =
    let next : Stands m (count + 1) (after w e.event) = stands_after e.event stands (omega (arith, most)) legal.0.enabled in
    let o : Option Message = accepted m e.event e.reply in
    let one = (kept_by e stands (omega (arith, most)) legal.0).stays (none_before o (accepted_of m es) none) in
    stays_through w.state.committed (after w e.event).state.committed o (accepted_of m es) w.state (after w e.event).state (world_from (after w e.event) es).state
    one.committed one (stays_on (count + 1) (after w e.event) es next (omega (arith, most)) legal.1 (none_behind o (accepted_of m es) none))

pub begun_stays : (m : Model) → IsChecked m → BegunStays m
begun_stays m checked [] more front legal = absurd front
begun_stays m checked (first ∷ es) more front legal =
    let on = goes_on m first es more legal in
    let w = world_of m (first ∷ es) in
    subst (λ (v : World). StaysBelow (begun_of w.state) (accepted_of m more) w.state v.state) (sym on.world) (begun_on (length (first ∷ es)) w more (stands_of m (first ∷ es) checked front) on.bounded on.rest)

pub committed_stays : (m : Model) → IsChecked m → CommittedStays m
committed_stays m checked [] more front legal none = absurd front
committed_stays m checked (first ∷ es) more front legal none =
    let on = goes_on m first es more legal in
    let w = world_of m (first ∷ es) in
    subst (λ (v : World). StaysBelow w.state.committed (accepted_of m more) w.state v.state) (sym on.world) (stays_on (length (first ∷ es)) w more (stands_of m (first ∷ es) checked front) on.bounded on.rest none)
