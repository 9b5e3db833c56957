use Rattle.std.proofs.Common.{◌≡◌, Option, Some, sym, subst, ◌∙◌}
use Rattle.std.proofs.lemmas.Result.{IfOk-weaker}
use Rattle.pl_cand.specs.declared.proposal.Proposal.{Proposal}
use Rattle.pl_cand.specs.Proposals.{IsProposal}
use Rattle.pl_choose.specs.Picks.{proposal, least_pick}
use Rattle.pl_choose.proofs.Proposing.{all_allowed, least_is_proposal, picks_least}
use Rattle.pl_choose.proofs.least.choose_fewest.Goals as goal

pub recalled-requires-clause-allowed : goal.recalled-requires-clause-allowed
recalled-requires-clause-allowed c = rw (c.as_slice.ensures.value, c.requires.first.1) (all_allowed c.args.board.now.state c.args.repairs.now.conflict)

pub make_if_mending-requires-clause-legal : goal.make_if_mending-requires-clause-legal
make_if_mending-requires-clause-legal c =
    let s = c.args.board.now.state in
    let P : Option Proposal → Type 0 = λ p. IsProposal s p in
    let is : Some (proposal c.args.repairs.now.conflict c.in-Some.mv) ≡ least_pick s = picks_least s c.args.repairs.now c.in-Some.mv c.requires.first (rw c.as_slice.ensures.value at c.in-Some.ensures) in
    subst P (sym is) (least_is_proposal s)

pub returns-in-Some-clause-picks : goal.returns-in-Some-clause-picks
returns-in-Some-clause-picks c =
    let s = c.args.board.now.state in
    let is : Some (proposal c.args.repairs.now.conflict c.in-Some.mv) ≡ least_pick s = picks_least s c.args.repairs.now c.in-Some.mv c.requires.first (rw c.as_slice.ensures.value at c.in-Some.ensures) in
    let P : Option Proposal → Type 0 = λ p. p ≡ Some (proposal c.args.repairs.now.conflict c.in-Some.mv) in
    let Q : Option Proposal → Type 0 = λ p. p ≡ least_pick s in
    IfOk-weaker c.make_if_mending.result P Q (λ p e. e ∙ is) c.make_if_mending.ensures.told
