-- A repair that a chooser made: its event was a step, and the machine stands behind it.
use Rattle.std.proofs.Common.{◌≡◌, ◌+◌, ◌≤◌, ◌<◌, ℕ, List, length, take, Bool, true, false, Option, Some, None, IfSome, refl, sym, ◌∙◌, ap, subst}
use Rattle.pl_model.specs.declared.whole.Model.{Model}
use Rattle.pl_model.specs.Checked.{IsChecked}
use Rattle.pl_facts.specs.declared.options.Options.{Options}
use Rattle.pl_entry.specs.declared.event.Event.TheVariants as event
use Rattle.pl_entry.specs.declared.reply.Reply.TheVariants as reply
use Rattle.pl_entry.specs.declared.entry.Entry.{Entry}
use Rattle.pl_entry.specs.Bounds.{IsConflictInRange, IsEventInRange}
use Rattle.pl_semantics.specs.declared.plan_state.PlanState.{PlanState}
use Rattle.pl_semantics.specs.Moves.{is_proper, refusal_of, applied}
use Rattle.pl_semantics.specs.Whole.{IsWhole}
use Rattle.pl_board.specs.Boards.{Standing}
use Rattle.pl_moves.specs.Keeping.{KeepsCommitted}
use Rattle.pl_moves.proofs.Keeping.{keeps}
use Rattle.pl_cand.specs.declared.proposal.Proposal.{Proposal}
use Rattle.pl_cand.specs.Proposals.{IsProposal, mended}
use Rattle.pl_cand.proofs.Proposed.{proposed_proper, proposed_allowed}
use Rattle.pl_machine.specs.declared.ahead.Ahead.{Ahead}
use Rattle.pl_machine.specs.declared.id_range.IdRange.{IdRange}
use Rattle.pl_machine.specs.declared.round.Round.{Round}
use Rattle.pl_machine.specs.declared.change.Change.TheVariants.{Repair}
use Rattle.pl_machine.specs.World.{due_in, plain_reason_of}
use Rattle.pl_machine.specs.Calm.{IsAhead, ahead_after}
use Rattle.pl_machine.specs.Keeping.{KeepsStanding}
use Rattle.pl_machine.specs.Repairs.{FitsTypes}
use Rattle.pl_machine.specs.Step.{after, after_fix, reply_of}
use Rattle.pl_machine.specs.Sound.{State, IsSound}
use Rattle.pl_machine.specs.Taking.{IsOpen, Takes, with_round, with_state}
use Rattle.pl_machine.specs.Mending.{is_repairing, logged, ahead_behind}
use Rattle.pl_machine.proofs.Handed.{in_range, turn_left}
use Rattle.pl_machine.proofs.Mending.{proposed_done, not_stuck, fix_open}
use Rattle.pl_machine.proofs.Proposed.{proposed_move}
use Rattle.pl_machine.proofs.Repairs.{due_applied, keeps_applied}
use Rattle.pl_machine.proofs.Resting.{goes_on}
use Rattle.pl_machine.proofs.Runs.{sound_carried, took_carried}
use Rattle.pl_machine.proofs.Settled.{ahead_still}

-- repair goes on in an unspoiled machine whose log has room
pub record GoesOn (s : State) : Type 0 where
  pub unspoiled : s.spoiled ≡ false
  pub repairing : is_repairing s.world ≡ true
  pub room : length s.log < s.world.options.entries
  pub turns : s.world.turn ≤ s.world.options.turns
  pub plain : plain_reason_of s.world ≡ None

pub may_fix : (s : State) (p : Proposal) → GoesOn s → IsProposal s.world.state (Some p) → IsOpen s (event.Fix p.conflict p.mv)
may_fix s p goes legal =
    fix_open s p.conflict p.mv goes.unspoiled goes.repairing goes.room (goes_on s.world goes.plain (not_stuck s.world.state p legal)) goes.turns

-- what is committed stays
pub keeps_proposed : (s : PlanState) (p : Proposal) → IsWhole s → IsProposal s (Some p) → KeepsCommitted s (applied s p.mv)
keeps_proposed s p whole legal = keeps s p.mv whole (proposed_proper s p legal) (proposed_allowed s p legal)

abbrev turned : Round → Round
turned r = record r { turn = r.turn + 1; held = false }

module _ (s : State) {m : Model} {log : List Entry} {o : Options} {due : List ℕ} {sent : ℕ} {ahead : Ahead} {open_ids : List IdRange} {done : Bool} (round : Round) (before : Standing)
    (is : record { spoiled = before.spoiled; model = m; log = log; world = record { state = before.state; options = o; dispatched = take sent due; turn = round.turn; rested = round.rested; held = round.held; closed = round.closed; done = done; halted = round.halted } } ≡ s)
    (sound : IsSound before.spoiled m log (record { state = before.state; options = o; dispatched = take sent due; turn = round.turn; rested = round.rested; held = round.held; closed = round.closed; done = done; halted = round.halted }) due sent ahead open_ids)
    (goes : GoesOn s) (whole : IsWhole s.world.state) (few : s.world.state.next_id ≤ 3999999000) where
  unspoiled : before.spoiled ≡ false
  unspoiled = ap (λ (t : State). t.spoiled) is ∙ goes.unspoiled

  -- the plan state that the machine is seen with
  seen : before.state ≡ s.world.state
  seen = ap (λ (t : State). t.world.state) is

  whole_before : IsWhole before.state
  whole_before = subst IsWhole (sym seen) whole

  module _ (p : Proposal) (legal : IsProposal before.state (Some p)) where
    legal_seen : IsProposal s.world.state (Some p)
    legal_seen = subst (λ (b : PlanState). IsProposal b (Some p)) seen legal

    may : IsOpen s (event.Fix p.conflict p.mv)
    may = may_fix s p goes legal_seen

    answers : reply.Done ≡ reply_of s.world (event.Fix p.conflict p.mv)
    answers = sym (proposed_done s.world.state p legal_seen)

    leaves : with_round (turned round) (with_state (applied s.world.state p.mv) s.world) ≡ after s.world (event.Fix p.conflict p.mv)
    leaves =
        subst (λ (t : State). with_round (turned round) (with_state (applied t.world.state p.mv) t.world) ≡ after_fix t.world p.mv reply.Done) is refl
        ∙ ap (after_fix s.world p.mv) answers

    turn : round.turn + 1 ≤ s.world.options.turns
    turn = subst (λ (t : State). t.world.turn + 1 ≤ s.world.options.turns → round.turn + 1 ≤ s.world.options.turns) is (λ le. le) (turn_left s.world p.conflict p.mv may.enabled)

    proper : is_proper before.state p.mv ≡ true
    proper = proposed_proper before.state p legal

    allowed : refusal_of before.state p.mv ≡ None
    allowed = proposed_allowed before.state p legal

    kept : KeepsStanding before.state (applied before.state p.mv)
    kept = keeps_applied before.state p.mv whole_before proper allowed

    listed : due ≡ due_in (applied before.state p.mv)
    listed = (sound.stands unspoiled).listed ∙ sym (due_applied before.state p.mv whole_before proper allowed)

    looked : IsAhead (applied before.state p.mv) (ahead_after (Repair p.mv) ahead) open_ids
    looked =
        ahead_still before.state (Repair p.mv) ahead open_ids refl whole_before (proper, allowed, subst (λ (b : PlanState). b.next_id ≤ 3999999000) (sym seen) few)
        (sound.stands unspoiled).looked

    fits : IsConflictInRange p.conflict × FitsTypes p.mv → IsEventInRange s.model (event.Fix p.conflict p.mv)
    fits ranges =
        let model : before.state.model ≡ s.model = (sound.stands unspoiled).model ∙ ap (λ (t : State). t.model) is in
        let checked : IsChecked s.model = subst (λ (t : State). IsChecked t.model) is sound.checked in
        (ranges.0, in_range s.model p.mv (proposed_move s.model before.state (Some p) checked model legal) ranges.1)

    sound_mended : IsConflictInRange p.conflict × FitsTypes p.mv
        → IsSound false m (logged (Some p) log) (record { state = applied before.state p.mv; options = o; dispatched = take sent due; turn = round.turn + 1; rested = round.rested; held = false; closed = round.closed; done = done; halted = round.halted }) due sent (ahead_after (Repair p.mv) ahead) open_ids
    sound_mended ranges =
        sound_carried s false (turned round) (applied before.state p.mv) due (ahead_after (Repair p.mv) ahead) open_ids (Repair p.mv) (event.Fix p.conflict p.mv) is sound refl may (fits ranges) tt answers kept listed looked refl leaves turn

    took_mended : IsOpen s (event.Fix p.conflict p.mv)
        × Takes s (event.Fix p.conflict p.mv) reply.Done (record { spoiled = false; model = m; log = logged (Some p) log; world = record { state = applied before.state p.mv; options = o; dispatched = take sent due; turn = round.turn + 1; rested = round.rested; held = false; closed = round.closed; done = done; halted = round.halted } })
    took_mended = took_carried s false (turned round) (applied before.state p.mv) due (Repair p.mv) (event.Fix p.conflict p.mv) is sound refl may answers kept listed refl leaves refl

  -- ---- behind what a chooser made, if it made any

  module _ (next : Option Proposal) (now : Standing) (log2 : List Entry) (ahead2 : Ahead) (made : now ≡ mended next before) (entry : log2 ≡ logged next log) (further : ahead2 ≡ ahead_behind next ahead) where
    pub sound_none : next ≡ None
        → IsSound now.spoiled m log2 (record { state = now.state; options = o; dispatched = take sent due; turn = round.turn; rested = round.rested; held = round.held; closed = round.closed; done = done; halted = round.halted }) due sent ahead2 open_ids
    sound_none none = by next none made entry further
      where
        by : (n : Option Proposal) → n ≡ None → now ≡ mended n before → log2 ≡ logged n log → ahead2 ≡ ahead_behind n ahead
            → IsSound now.spoiled m log2 (record { state = now.state; options = o; dispatched = take sent due; turn = round.turn; rested = round.rested; held = round.held; closed = round.closed; done = done; halted = round.halted }) due sent ahead2 open_ids
        by None e f g h = rw (f, g, h) sound
        by (Some p) e f g h = absurd (cc)

    pub same_none : next ≡ None
        → record { spoiled = now.spoiled; model = m; log = log2; world = record { state = now.state; options = o; dispatched = take sent due; turn = round.turn; rested = round.rested; held = round.held; closed = round.closed; done = done; halted = round.halted } } ≡ s
    same_none none = by next none made entry
      where
        by : (n : Option Proposal) → n ≡ None → now ≡ mended n before → log2 ≡ logged n log
            → record { spoiled = now.spoiled; model = m; log = log2; world = record { state = now.state; options = o; dispatched = take sent due; turn = round.turn; rested = round.rested; held = round.held; closed = round.closed; done = done; halted = round.halted } } ≡ s
        by None e f g = rw (f, g) is
        by (Some p) e f g = absurd (cc)

    module _ (p : Proposal) (some : next ≡ Some p) (legal : IsProposal before.state next) (round2 : Round) (turns : round2 ≡ turned round) where
      legal_some : IsProposal before.state (Some p)
      legal_some = let P : Option Proposal → Type 0 = λ n. IsProposal before.state n in subst P some legal

      made_some : now ≡ record { spoiled = false; state = applied before.state p.mv }
      made_some = made ∙ ap (λ (n : Option Proposal). mended n before) some

      entry_some : log2 ≡ logged (Some p) log
      entry_some = entry ∙ ap (λ (n : Option Proposal). logged n log) some

      further_some : ahead2 ≡ ahead_after (Repair p.mv) ahead
      further_some = further ∙ ap (λ (n : Option Proposal). ahead_behind n ahead) some

      pub sound_some : IfSome next (λ q. IsConflictInRange q.conflict × FitsTypes q.mv)
          → IsSound now.spoiled m log2 (record { state = now.state; options = o; dispatched = take sent due; turn = round2.turn; rested = round2.rested; held = round2.held; closed = round2.closed; done = done; halted = round2.halted }) due sent ahead2 open_ids
      sound_some ranges =
          let P : Option Proposal → Type 0 = λ n. IfSome n (λ q. IsConflictInRange q.conflict × FitsTypes q.mv) in
          rw (made_some, entry_some, further_some, turns) (sound_mended p legal_some (subst P some ranges))

      pub took_some : IsProposal s.world.state (Some p)
          × IsOpen s (event.Fix p.conflict p.mv)
          × Takes s (event.Fix p.conflict p.mv) reply.Done (record { spoiled = now.spoiled; model = m; log = log2; world = record { state = now.state; options = o; dispatched = take sent due; turn = round2.turn; rested = round2.rested; held = round2.held; closed = round2.closed; done = done; halted = round2.halted } })
      took_some = rw (made_some, entry_some, turns) (legal_seen p legal_some, (took_mended p legal_some).0, (took_mended p legal_some).1)

      pub keeps_some : KeepsCommitted s.world.state now.state
      keeps_some = rw made_some (subst (λ (b : PlanState). KeepsCommitted b (applied before.state p.mv)) seen (keeps_proposed before.state p whole_before legal_some))
