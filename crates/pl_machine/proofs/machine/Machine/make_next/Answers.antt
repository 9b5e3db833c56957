use Rattle.std.proofs.Common.{◌≡◌, ◌≤◌, ◌∙◌, true, false, Option, Some, IfSome, ◌⊎◌, ap, sym, subst, arith}
use Rattle.pl_semantics.specs.Legal.{is_stuck}
use Rattle.pl_cand.specs.declared.proposal.Proposal.{Proposal}
use Rattle.pl_cand.specs.Proposals.{IsProposal}
use Rattle.pl_moves.specs.Keeping.{KeepsCommitted}
use Rattle.pl_machine.specs.Sound.{State}
use Rattle.pl_machine.proofs.Handed.{keeps_itself}
use Rattle.pl_machine.proofs.Mended.{GoesOn, sound_none, same_none, sound_some, took_some, keeps_some}
use Rattle.pl_machine.proofs.Runs.{sound_spoiled}
use Rattle.pl_machine.proofs.machine.Machine.make_next.Goals as goal

pub push_repair-requires-clause-unspoiled : goal.push_repair-requires-clause-unspoiled
push_repair-requires-clause-unspoiled g c = ap (λ (t : State). t.spoiled) c.self.view_is ∙ c.requires.unspoiled

pub push_repair-requires-clause-next_id : goal.push_repair-requires-clause-next_id
push_repair-requires-clause-next_id g c = subst (λ (t : State). t.world.state.next_id ≤ 3999999000) (sym c.self.view_is) c.standing-state.ensures.next_id

pub repaired-self-inside-requires : goal.repaired-self-inside-requires
repaired-self-inside-requires g c = omega (arith, c.self.invariant.turn, c.self.invariant.limits.turns.1)

pub invariant_of-self : goal.invariant_of-self
invariant_of-self g c = rw c.in_err-push_repair.ensures.err (sound_spoiled _ _ c.self.invariant c.in_err-push_repair.ensures.spoils)

pub invariant_of-self-in-None : goal.invariant_of-self-in-None
invariant_of-self-in-None g c =
    let goes : GoesOn c.args.self.now = record { unspoiled = c.requires.unspoiled; repairing = c.requires.repairing; room = c.requires.room; turns = c.requires.turns; plain = c.requires.plain } in
    sound_none c.args.self.now c.self.inside.round c.self.inside.board c.self.view_is c.self.invariant goes c.standing-state.ensures.whole c.standing-state.ensures.next_id _ _ _ _
    c.in_ok-push_repair.ensures.made c.in_ok-push_repair.ensures.logged c.in_ok-push_repair.ensures.ahead c.in-None.is

pub invariant_of-self-in-Some : goal.invariant_of-self-in-Some
invariant_of-self-in-Some g c =
    let goes : GoesOn c.args.self.now = record { unspoiled = c.requires.unspoiled; repairing = c.requires.repairing; room = c.requires.room; turns = c.requires.turns; plain = c.requires.plain } in
    sound_some c.args.self.now c.self.inside.round c.self.inside.board c.self.view_is c.self.invariant goes c.standing-state.ensures.whole c.standing-state.ensures.next_id _ _ _ _
    c.in_ok-push_repair.ensures.made c.in_ok-push_repair.ensures.logged c.in_ok-push_repair.ensures.ahead c.in-Some.proposal c.in-Some.is c.in_ok-push_repair.ensures.legal _ c.repaired-self-inside.ensures c.in_ok-push_repair.ensures.ranges

pub returns-in-None-clause-made : goal.returns-in-None-clause-made
returns-in-None-clause-made g c =
    let s = c.args.self.now in
    let goes : GoesOn s = record { unspoiled = c.requires.unspoiled; repairing = c.requires.repairing; room = c.requires.room; turns = c.requires.turns; plain = c.requires.plain } in
    let P : Option Proposal → Type 0 = λ o. IsProposal c.self.inside.board.state o in
    let stuck : is_stuck c.self.inside.board.state ≡ true = subst P c.in-None.is c.in_ok-push_repair.ensures.legal in (
      subst (λ (t : State). is_stuck t.world.state ≡ true) c.self.view_is stuck,
      same_none s c.self.inside.round c.self.inside.board c.self.view_is c.self.invariant goes c.standing-state.ensures.whole c.standing-state.ensures.next_id _ _ _ _
          c.in_ok-push_repair.ensures.made c.in_ok-push_repair.ensures.logged c.in_ok-push_repair.ensures.ahead c.in-None.is,
      c.in_ok-push_repair.ensures.kept c.in-None.is,
    )

pub returns-in-None-clause-committed : goal.returns-in-None-clause-committed
returns-in-None-clause-committed g c =
    let s = c.args.self.now in
    let goes : GoesOn s = record { unspoiled = c.requires.unspoiled; repairing = c.requires.repairing; room = c.requires.room; turns = c.requires.turns; plain = c.requires.plain } in
    subst (λ (t : State). KeepsCommitted s.world.state t.world.state)
    (sym (same_none s c.self.inside.round c.self.inside.board c.self.view_is c.self.invariant goes c.standing-state.ensures.whole c.standing-state.ensures.next_id _ _ _ _
    c.in_ok-push_repair.ensures.made c.in_ok-push_repair.ensures.logged c.in_ok-push_repair.ensures.ahead c.in-None.is))
    (keeps_itself s.world.state)

pub returns-in-Some-clause-made : goal.returns-in-Some-clause-made
returns-in-Some-clause-made g c =
    let s = c.args.self.now in
    let goes : GoesOn s = record { unspoiled = c.requires.unspoiled; repairing = c.requires.repairing; room = c.requires.room; turns = c.requires.turns; plain = c.requires.plain } in
    let Q : Option Proposal → Type 0 = λ o. IfSome o (λ q. g.C.Chooser.picks c.args.chooser.now c.self.inside.board.state (Some q) c.push_repair.new.chooser) in
    let picked : g.C.Chooser.picks c.args.chooser.now c.self.inside.board.state (Some c.in-Some.proposal) c.push_repair.new.chooser = subst Q c.in-Some.is c.in_ok-push_repair.ensures.picks in
    let took =
    took_some s c.self.inside.round c.self.inside.board c.self.view_is c.self.invariant goes c.standing-state.ensures.whole c.standing-state.ensures.next_id _ _ _ _
    c.in_ok-push_repair.ensures.made c.in_ok-push_repair.ensures.logged c.in_ok-push_repair.ensures.ahead c.in-Some.proposal c.in-Some.is c.in_ok-push_repair.ensures.legal _ c.repaired-self-inside.ensures in
    (subst (λ (t : State). g.C.Chooser.picks c.args.chooser.now t.world.state (Some c.in-Some.proposal) c.push_repair.new.chooser) c.self.view_is picked, took.0, took.1, took.2)

pub returns-in-Some-clause-committed : goal.returns-in-Some-clause-committed
returns-in-Some-clause-committed g c =
    let s = c.args.self.now in
    let goes : GoesOn s = record { unspoiled = c.requires.unspoiled; repairing = c.requires.repairing; room = c.requires.room; turns = c.requires.turns; plain = c.requires.plain } in
    keeps_some s c.self.inside.round c.self.inside.board c.self.view_is c.self.invariant goes c.standing-state.ensures.whole c.standing-state.ensures.next_id _ _ _ _
    c.in_ok-push_repair.ensures.made c.in_ok-push_repair.ensures.logged c.in_ok-push_repair.ensures.ahead c.in-Some.proposal c.in-Some.is c.in_ok-push_repair.ensures.legal _ c.repaired-self-inside.ensures

pub returns-in-None-clause-drawn : goal.returns-in-None-clause-drawn
returns-in-None-clause-drawn g c = subst (λ (t : State). (c.push_repair.new.chooser ≡ c.args.chooser.now) ⊎ ((is_stuck t.world.state ≡ false) × g.C.Chooser.drawn c.args.chooser.now c.push_repair.new.chooser)) c.self.view_is c.push_repair.ensures.drawn

pub returns-in-Some-clause-drawn : goal.returns-in-Some-clause-drawn
returns-in-Some-clause-drawn g c = subst (λ (t : State). (c.push_repair.new.chooser ≡ c.args.chooser.now) ⊎ ((is_stuck t.world.state ≡ false) × g.C.Chooser.drawn c.args.chooser.now c.push_repair.new.chooser)) c.self.view_is c.push_repair.ensures.drawn

pub returns-in_err-push_repair-clause-drawn : goal.returns-in_err-push_repair-clause-drawn
returns-in_err-push_repair-clause-drawn g c = subst (λ (t : State). (c.push_repair.new.chooser ≡ c.args.chooser.now) ⊎ ((is_stuck t.world.state ≡ false) × g.C.Chooser.drawn c.args.chooser.now c.push_repair.new.chooser)) c.self.view_is c.push_repair.ensures.drawn
