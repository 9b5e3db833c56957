use Rattle.std.proofs.Common.{◌≡◌, Option, Some, sym, subst, ◌∙◌}
use Rattle.std.proofs.lemmas.Result.{IfOk-weaker}
use Rattle.pl_cand.specs.declared.proposal.Proposal.{Proposal}
use Rattle.pl_cand.specs.Proposals.{IsProposal}
use Rattle.pl_choose.specs.Picks.{least_pick}
use Rattle.pl_choose.proofs.Proposing.{least_is_proposal}
use Rattle.pl_choose.proofs.least.choose_behind.Goals as goal

pub make_if_mending-requires-clause-legal : goal.make_if_mending-requires-clause-legal
make_if_mending-requires-clause-legal c =
    let s = c.args.board.now.state in
    let P : Option Proposal → Type 0 = λ p. IsProposal s p in
    subst P (sym (c.requires.best c.if-is_best.true)) (least_is_proposal s)

pub returns-then-is_best-clause-picks : goal.returns-then-is_best-clause-picks
returns-then-is_best-clause-picks c =
    let is = c.requires.best c.if-is_best.true in
    let P : Option Proposal → Type 0 = λ p. p ≡ Some c.args.proposal in
    let Q : Option Proposal → Type 0 = λ p. p ≡ least_pick c.args.board.now.state in
    IfOk-weaker c.make_if_mending.result P Q (λ p e. e ∙ is) c.make_if_mending.ensures.told
