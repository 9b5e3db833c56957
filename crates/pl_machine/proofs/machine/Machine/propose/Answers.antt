use Rattle.std.proofs.Common.{◌≡◌, ◌∙◌, IfSome, false, sym, ap, subst, arith}
use Rattle.pl_cand.specs.Proposals.{IsProposal}
use Rattle.pl_machine.specs.Repairs.{IsMoveOf}
use Rattle.pl_machine.specs.Sound.{State}
use Rattle.pl_machine.proofs.Proposed.{proposed_move}
use Rattle.pl_machine.proofs.Runs.{sound_spoiled}
use Rattle.pl_machine.proofs.machine.Machine.propose.Goals as goal

pub propose-requires-clause-next_id : goal.propose-requires-clause-next_id
propose-requires-clause-next_id g c =
    let unspoiled : c.self.inside.board.spoiled ≡ false = ap (λ (t : State). t.spoiled) c.self.view_is ∙ sym c.spoiled.ensures ∙ c.if-spoiled.false in
    let standing = c.self.invariant.stands unspoiled in
    omega (arith, standing.next_id, c.self.invariant.bounded, c.self.invariant.limits.entries.1)

pub invariant_of-self : goal.invariant_of-self
invariant_of-self g c = sound_spoiled _ _ c.self.invariant c.in_err-proposal.ensures.err

pub invariant_of-self-2 : goal.invariant_of-self-2
invariant_of-self-2 g c = rw c.in_ok-proposal.ensures.same c.self.invariant

pub returns-clause-answers : goal.returns-clause-answers
returns-clause-answers g c = (sym c.spoiled.ensures ∙ c.if-spoiled.false, rw c.in_ok-proposal.ensures.same c.self.view_is)

pub returns-clause-picks : goal.returns-clause-picks
returns-clause-picks g c = subst (λ (t : State). g.C.Chooser.picks c.args.chooser.now t.world.state c.in_ok-proposal.proposal c.propose.new.self) c.self.view_is c.in_ok-proposal.ensures.picks

pub returns-clause-legal : goal.returns-clause-legal
returns-clause-legal g c = subst (λ (t : State). IsProposal t.world.state c.in_ok-proposal.proposal) c.self.view_is c.in_ok-proposal.ensures.legal

pub returns-clause-moves : goal.returns-clause-moves
returns-clause-moves g c =
    let unspoiled : c.self.inside.board.spoiled ≡ false = ap (λ (t : State). t.spoiled) c.self.view_is ∙ sym c.spoiled.ensures ∙ c.if-spoiled.false in
    let standing = c.self.invariant.stands unspoiled in
    subst (λ (t : State). IfSome c.in_ok-proposal.proposal (λ q. IsMoveOf t.model q.mv)) c.self.view_is
    (proposed_move c.self.inside.model c.self.inside.board.state c.in_ok-proposal.proposal c.self.invariant.checked standing.model c.in_ok-proposal.ensures.legal)
